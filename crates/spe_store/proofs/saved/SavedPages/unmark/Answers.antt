use Rattle.std.proofs.Common.{refl, sym, ap, ◌∙◌, subst, false, List, ℕ, ◌++◌, ◌∷◌, []}
use Rattle.std.specs.Prelude.{is_some, vec_capacity}
use Rattle.spe_store.specs.declared.saved.Saved.{Saved}
use Rattle.spe_store.specs.Saved.{IsLast}
use Rattle.spe_store.proofs.SavedLemmas.{last_taken, last_there, unmark_saved}
use Rattle.spe_store.proofs.saved.SavedPages.unmark.Goals as goal

pub invariant_of-self : goal.invariant_of-self
invariant_of-self c =
    let last = subst (IsLast c.args.page) (sym c.self.view_is) c.requires in
    let list = last_taken c.self.inside.changed.items c.args.page last ∙ ap (λ (l : List ℕ). l ++ c.args.page ∷ []) (sym c.drop_last.ensures.items) in
    absurd (last_there c.args.page c.self.inside.map.entries c.self.inside.map.entries c.self.inside.changed.items (vec_capacity c.self.inside.changed) c.self.invariant c.drop_last.new.list.items list (sym c.in_default.ensures.value))

pub invariant_of-self-2 : goal.invariant_of-self-2
invariant_of-self-2 c =
    let x : Saved = c.in-Some.saved.now in
    let w : Saved = record { bytes = x.bytes; changed = false } in
    let set = c.get_mut.follows.holds w in
    let last = subst (IsLast c.args.page) (sym c.self.view_is) c.requires in
    let list = last_taken c.self.inside.changed.items c.args.page last ∙ ap (λ (l : List ℕ). l ++ c.args.page ∷ []) (sym c.drop_last.ensures.items) in
    unmark_saved c.args.page c.self.inside.map.entries _ c.self.inside.changed.items (vec_capacity c.self.inside.changed) c.self.invariant
    w refl (set.3 (ap is_some (sym c.in-Some.ensures.value))).0 set.0 c.drop_last.new.list.items list _ c.drop_last.ensures.capacity
