use Rattle.std.proofs.Common.{◌≡◌, ◌∙◌, ◌<◌, ℕ, List, ap, length, arith}
use Rattle.std.specs.Prelude.{slice_index_or, slice_set}
use Rattle.spe_model.specs.declared.page.Cell.{Cell}
use Rattle.spe_cut.specs.Run.{Run}
use Rattle.spe_insert.proofs.PlaceLemmas.{child_set}
use Rattle.spe_insert.proofs.place.set_child.Goals as goal

abbrev the_run : ℕ → List Cell → Run
the_run right cells = record { cells = cells; right = right }

pub returns-clause-child : goal.returns-clause-child
returns-clause-child c =
    let n = c.args.place in
    let d = c.index_mut.result.now in
    let old = c.args.children.cells in
    let items = c.into_vec-cells.result.items in
    let within : n < length old = omega (arith, c.requires, c.if-place-len.false, c.len.ensures, c.into_vec-cells.result.ok, ap length c.into_vec-cells.ensures) in
    let is : c.new-2.result ≡ slice_set old n (record (slice_index_or old n d) { left = c.args.child }) =
    c.new-2.ensures ∙ ap (λ (x : Cell). slice_set items n (record x { left = c.args.child })) c.index_mut.ensures.value
    ∙ ap (λ (xs : List Cell). slice_set xs n (record (slice_index_or xs n d) { left = c.args.child })) c.into_vec-cells.ensures in
    ap (the_run c.args.children.right) is ∙ child_set n old c.args.children.right c.args.child d within
