use Rattle.std.proofs.Common.{◌≡◌, ℕ, ◌∙◌, ap, sym, refl, Some, [], ◌∷◌}
use Rattle.spe_model.specs.Rollback.{write_of}
use Rattle.spe_model.specs.Trace.{after, made_by}
use Rattle.spe_core.specs.Changed.{undone, undo_of_live, page_write}
use Rattle.spe_core.specs.Enabled.{is_serving}
use Rattle.spe_core.specs.Lives.{updated_in}
use Rattle.spe_core.specs.Parts.{state_of}
use Rattle.spe_core.specs.State.{live_of}
use Rattle.spe_core.proofs.StepLemmas.{made_is, undo_some}
use Rattle.spe_core.proofs.work.undo_bytes.Goals as goal

pub returns-in_default-clause-ok : goal.returns-in_default-clause-ok
returns-in_default-clause-ok c =
    let s = state_of c.args.parts.now in
    absurd (undo_some (is_serving s) (live_of s c.args.id) c.requires.enabled (sym c.in_default.ensures))

pub returns-clause-ok : goal.returns-clause-ok
returns-clause-ok c =
    let s = state_of c.args.parts.now in
    let page = c.in-Some.page in
    let bytes = c.in-Some.bytes.now in
    let write = page_write s page bytes in
    let first : undo_of_live (live_of s c.args.id) ≡ Some (page, bytes) = sym c.in-Some.ensures in
    let files : c.write_page.new.self ≡ after s.content (write ∷ []) = c.in_ok-write_page.ensures.ok ∙ ap (λ (size : ℕ). made_by (write_of size (record { page = page; content = bytes })) s.content) c.page_size-size.ensures in
    let live : c.undo.new.self ≡ updated_in c.args.id (undone (Some (page, bytes))) s.live = c.undo.ensures bytes in
    record { state = rw first (rw (files, live, c.in_ok-made.ensures) refl ∙ sym (made_is s c.args.id (undone (Some (page, bytes))) (write ∷ []))); pages = refl }
