-- What a move that is tried leaves.
use Rattle.std.proofs.Common.{◌≡◌, Bool, false, true, List, refl, sym, subst, ◌∙◌}
use Rattle.std.proofs.lemmas.Bool.{false≢true}
use Rattle.ev_model.specs.Network.{Network}
use Rattle.route_improve.specs.Routes.{AreCheaper}
use Rattle.route_improve.specs.Trying.{AreTried}
use Rattle.route_improve.specs.declared.route.Route.{Route}

-- a move was made
pub tried_made : (g : Network) (old new : List Route) (P : Type 0) → AreCheaper g old new → AreTried g old new P true
tried_made g old new P cheaper = record {
  cheaper = λ yes. cheaper;
  same = λ no. absurd (false≢true (sym no));
  settled = λ no. absurd (false≢true (sym no));
}

-- none was made
pub tried_not : (g : Network) (rs : List Route) (P : Type 0) → P → AreTried g rs rs P false
tried_not g rs P shown = record { cheaper = λ yes. absurd (false≢true yes); same = λ no. refl; settled = λ no. shown }

-- what is shown of the routes shows something else
pub shows : (g : Network) (old new : List Route) (P Q : Type 0) (made : Bool) → (P → Q) → AreTried g old new P made → AreTried g old new Q made
shows g old new P Q made step tried = record { cheaper = tried.cheaper; same = tried.same; settled = λ no. step (tried.settled no) }

-- the same behind another move, which was not made
pub tried_next : (g h : Network) (old same new : List Route) (P Q : Type 0) (made : Bool) → h ≡ g → same ≡ old → (P → Q) → AreTried h same new P made → AreTried g old new Q made
tried_next g h old same new P Q made network stays step tried = record {
  cheaper = λ yes. subst (λ (rs : List Route). AreCheaper g rs new) stays (subst (λ (k : Network). AreCheaper k same new) network (tried.cheaper yes));
  same = λ no. tried.same no ∙ stays;
  settled = λ no. step (tried.settled no);
}
