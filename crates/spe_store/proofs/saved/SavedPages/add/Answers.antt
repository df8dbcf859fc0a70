use Rattle.std.proofs.Common.{◌≡◌, ◌+◌, ◌≤◌, refl, sym, subst, arith, false, suc, List, ℕ, length}
use Rattle.std.specs.Prelude.{vec_capacity}
use Rattle.spe_store.specs.declared.saved.Saved.{Saved}
use Rattle.spe_store.specs.Saved.{AreSaved, SavedPages, has_saved}
use Rattle.spe_store.proofs.SavedLemmas.{add_saved, no_entry}
use Rattle.spe_store.proofs.saved.SavedPages.add.Goals as goal

pub invariant_of-self-2 : goal.invariant_of-self-2
invariant_of-self-2 c =
    let e : Saved = record { bytes = c.args.bytes; changed = false } in
    let lacks = subst (λ (s : SavedPages). has_saved c.args.page s ≡ false) (sym c.self.view_is) c.requires in
    let room : suc (length c.self.inside.map.entries) + length c.self.inside.changed.items ≤ vec_capacity c.reserve.new.self =
    omega (arith, c.in_ok-reserve.ensures.ok, c.len.ensures.len, c.reserve.ensures.len, c.self.inside.changed.ok) in
    subst (λ (cs : List ℕ). AreSaved (record { entries = c.insert.new.self.entries; changed = cs }) (vec_capacity c.reserve.new.self)) (sym c.reserve.ensures.items)
    (add_saved c.args.page c.self.inside.map.entries c.insert.new.self.entries c.self.inside.changed.items (vec_capacity c.self.inside.changed) c.self.invariant
    e refl (no_entry _ lacks) c.in_ok-_old.ensures.updates.0 c.in_ok-_old.ensures.entries (vec_capacity c.reserve.new.self) room)
