-- What a step makes of a state.
use Rattle.std.proofs.Common.{◌≡◌, ℕ, ◌+◌, List, length, ap, ◌∙◌, refl, Bool, true, false, Option, Some, None}
use Rattle.std.specs.Prelude.{◌&&◌, not, is_some}
use Rattle.std.specs.List.{find}
use Rattle.std.specs.Option.{option_map_or}
use Rattle.std.proofs.lemmas.Bool.{and_parts}
use Rattle.spe_model.specs.Trace.{Operation, after}
use Rattle.spe_core.specs.Changed.{undo_of_live, update_live, updated, with_made}
use Rattle.spe_core.specs.Enabled.{has_changed, is_changed}
use Rattle.spe_core.specs.Lives.{updated_in}
use Rattle.spe_core.specs.State.{State, Live, is_ended, live_in}
use Rattle.spe_stored.proofs.SheetsLemmas.{found_any}

-- the state with this of its transactions
updated_is : (s : State) (id : ℕ) (f : Live → Live) (o : Option Live) → live_in id s.live ≡ o → updated s id f o ≡ record s { live = updated_in id f s.live }
updated_is s id f None at = rw at refl
updated_is s id f (Some t) at = rw at refl

pub update_is : (s : State) (id : ℕ) (f : Live → Live) → update_live s id f ≡ record s { live = updated_in id f s.live }
update_is s id f = updated_is s id f (live_in id s.live) refl

-- and with these operations made
pub made_is : (s : State) (id : ℕ) (f : Live → Live) (ops : List Operation)
    → with_made (update_live s id f) ops ≡ record s { live = updated_in id f s.live; content = after s.content ops; made = s.made + length ops }
made_is s id f ops = rw (update_is s id f) refl

-- where a transaction may undo, there is a page to undo
pub undo_some : (serving : Bool) (o : Option Live) → (serving && option_map_or (λ t. not (is_ended t) && has_changed t) o false) ≡ true → undo_of_live o ≡ None → ⊥
undo_some serving None may none = let one = and_parts serving false may in absurd cc
undo_some serving (Some t) may none =
    let one = and_parts serving (not (is_ended t) && has_changed t) may in
    let two = and_parts (not (is_ended t)) (has_changed t) one.1 in
    let some : is_some (find (is_changed t) t.journalled) ≡ true = found_any (is_changed t) t.journalled ∙ two.1 in
    let lacks : is_some (find (is_changed t) t.journalled) ≡ false = ap is_some none in
    absurd cc
