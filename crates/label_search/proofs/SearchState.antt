-- What a search keeps of its labels.
use Rattle.std.proofs.Common.{◌≡◌, ℕ, ◌<◌, ◌≤◌, sym, ap, subst, List, [], ◌∷◌, ◌++◌, arith, Some}
use Rattle.std.specs.Prelude.{slice_get}
use Rattle.std.specs.List.{All}
use Rattle.std.proofs.lemmas.Option.{slice_get_within}
use Rattle.dominance.specs.LevelTimes.{IsLevel, time_at}
use Rattle.ev_model.specs.Network.{node_count, scaled_limit}
use Rattle.frvcp_labels.proofs.Points.{start_level, start_time}
use Rattle.piece_fn.specs.PieceFn.{level_times}
use Rattle.label_search.specs.Laws.{IsLawful}
use Rattle.label_search.specs.Space.{Space}
use Rattle.label_search.specs.Steps.{Comes, IsInRange, IsLeft, IsStart, IsStep, Leads}
use Rattle.label_search.specs.Tree.{AreSteps, IsGrown, IsNext, IsTree}
use Rattle.label_search.specs.declared.found.Found.{Found}
use Rattle.label_search.proofs.Lists.{all_but_last, of_last}

module _ {Label Target Route : Type 0} (s : Space Label Target Route) (lawful : IsLawful s) where
  -- the start is in range
  pub start_range : (l : Label) → IsStart s l → IsInRange s l
  start_range l start = record {
    node = omega (arith, start.node, lawful.network.depot);
    fits = lawful.start_fits l start.begins;
    levels = λ level is.
        let same = start_level s.network.capacity 0 level (subst (λ v. IsLevel (level_times v) level) start.value is) in
        omega (arith, same);
    times = λ level is.
        let none = start_time s.network.capacity level (subst (λ v. IsLevel (level_times v) level) start.value is) in
        let same : time_at (level_times (s.value l)) level ≡ time_at (level_times ((s.network.capacity, 0) ∷ [])) level = ap (λ v. time_at (level_times v) level) start.value in
        omega (arith, none, same);
  }

  module _ (from : Label) (node : ℕ) (t : Target) (value : List (ℕ × ℕ)) (known : node < node_count s.network) (leads : Leads s from (s.label t node value)) (left : IsLeft s.network (s.value from) (s.node from) node value) where
    there : s.node (s.label t node value) ≡ node
    there = lawful.label_node t node value

    same_value : s.value (s.label t node value) ≡ value
    same_value = lawful.label_value t node value

    known_there : s.node (s.label t node value) < node_count s.network
    known_there = subst (λ x. x < node_count s.network) (sym (lawful.label_node t node value)) known

    -- a label one step behind one in range is in range
    pub step_range : IsInRange s from → IsInRange s (s.label t node value)
    step_range range = record {
      node = known_there;
      fits = lawful.step_fits from (s.label t node value) range known_there leads;
      levels = subst (λ v. (level : ℕ) → IsLevel (level_times v) level → level ≤ s.network.capacity) (sym same_value) (λ level is. (left.comes level is).full);
      times = subst (λ v. (level : ℕ) → IsLevel (level_times v) level → time_at (level_times v) level ≤ scaled_limit s.network) (sym same_value) left.times;
    }

    pub step_made : IsStep s from (s.label t node value)
    step_made = record {
      known = known_there;
      comes = subst (λ v. Comes s.network (s.value from) (s.node from) (s.node (s.label t node value)) v) (sym same_value) (subst (λ x. Comes s.network (s.value from) (s.node from) x value) (sym there) left.comes);
      leads = leads;
    }

  module _ (found : List (Found Label)) (i : ℕ) (from : Found Label) (here : slice_get found i ≡ Some from) (range : IsInRange s from.label) (node : ℕ) (t : Target) (value : List (ℕ × ℕ)) (known : node < node_count s.network) (leads : Leads s from.label (s.label t node value)) (left : IsLeft s.network (s.value from.label) (s.node from.label) node value) where
    -- a label that a step makes
    pub next_made : (l : Label) → l ≡ s.label t node value → IsNext s found i l
    next_made l is = record {
      range = subst (λ (x : Label). IsInRange s x) (sym is) (step_range from.label node t value known leads left range);
      known = slice_get_within found i from here;
      origin = (from, here, subst (λ (x : Label). IsStep s from.label x) (sym is) (step_made from.label node t value known leads left));
    }

-- the labels of some values, the last of which is taken
module _ {Label Target Route : Type 0} (s : Space Label Target Route) (found : List (Found Label)) (i node : ℕ) (t : Target) (all values : List (List (ℕ × ℕ))) (value : List (ℕ × ℕ)) (are : all ≡ values ++ value ∷ []) (steps : AreSteps s found i node t all) where
  abbrev left_behind : List (ℕ × ℕ) → Type 0
  left_behind = IsLeft s.network (s.value steps.from.label) (s.node steps.from.label) node

  each : All left_behind (values ++ value ∷ [])
  each = subst (λ (vs : List (List (ℕ × ℕ))). All left_behind vs) are steps.left

  pub last_next : {G : Type 0} (lawful : IsLawful s) (groups : List G) → IsTree s found groups → node < node_count s.network → (l : Label) → l ≡ s.label t node value → IsNext s found i l
  last_next lawful groups tree known l is =
      next_made s lawful found i steps.from steps.here (tree.labels i steps.from steps.here).range node t value known (steps.leads value) (of_last left_behind values value each) l is

  pub steps_left : (now : List (Found Label)) → IsGrown found now → AreSteps s now i node t values
  steps_left now grown = record {
    from = steps.from;
    here = grown.stays i steps.from steps.here;
    leads = steps.leads;
    left = all_but_last left_behind values value each;
  }
