use Rattle.std.proofs.Common.{refl, sym, ap, ◌∙◌, subst, true, List, ℕ}
use Rattle.std.specs.Prelude.{is_some, vec_capacity}
use Rattle.std.specs.BTreeMap.{is_at}
use Rattle.std.specs.Ordering.{nat_cmp}
use Rattle.std.proofs.lemmas.Map.Steps.{set_value_same}
use Rattle.spe_store.specs.declared.saved.Saved.{Saved}
use Rattle.spe_store.specs.Saved.{AreSaved}
use Rattle.spe_store.proofs.SavedLemmas.{mark_saved, room_left}
use Rattle.spe_store.proofs.saved.SavedPages.mark.Goals as goal

pub invariant_of-self-then-saved : goal.invariant_of-self-then-saved
invariant_of-self-then-saved c =
    let x : Saved = c.in-Some.saved.now in
    let set = c.get_mut.follows.holds x in
    subst (λ (es : List (ℕ × Saved)). AreSaved (record { entries = es; changed = c.self.inside.changed.items }) (vec_capacity c.self.inside.changed))
    (sym (set.0 ∙ set_value_same (is_at (nat_cmp c.args.page)) c.self.inside.map.entries x (sym c.in-Some.ensures.value))) c.self.invariant

pub note-requires : goal.note-requires
note-requires c =
    let x : Saved = c.in-Some.saved.now in
    room_left c.args.page c.self.inside.map.entries c.self.inside.map.entries c.self.inside.changed.items (vec_capacity c.self.inside.changed) c.self.invariant
    x (record { bytes = x.bytes; changed = true }) (sym c.in-Some.ensures.value) c.if-saved.false refl

pub invariant_of-self-2 : goal.invariant_of-self-2
invariant_of-self-2 c =
    let x : Saved = c.in-Some.saved.now in
    let w : Saved = record { bytes = x.bytes; changed = true } in
    let set = c.get_mut.follows.holds w in
    let found = sym c.in-Some.ensures.value in
    mark_saved c.args.page c.self.inside.map.entries _ c.self.inside.changed.items (vec_capacity c.self.inside.changed) c.self.invariant
    x w found c.if-saved.false refl (set.3 (ap is_some found)).0 set.0 _ c.note.ensures.items _ c.note.ensures.capacity
