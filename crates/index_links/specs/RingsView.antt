-- What a `Rings` is, by its fields.
use Rattle.std.specs.Prelude.{length}
use Rattle.index_links.specs.Lists.{Lists}
use Rattle.index_links.specs.Links.{Spells, spelled_lists}
use Rattle.index_links.specs.declared.rings.Rings.TheInside.{Inside}

-- the lists that the links spell
abbrev pub lists_of : Inside → Lists
lists_of r =
    record {
      lists = spelled_lists r.links.ends.items r.links.slots.items;
      items = length r.links.slots.items;
    }

-- the links spell lists
abbrev pub IsSound : Inside → Type 0
IsSound r =
    Spells r.links.ends.items r.links.slots.items
    (spelled_lists r.links.ends.items r.links.slots.items)
