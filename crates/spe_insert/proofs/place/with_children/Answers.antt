use Rattle.std.proofs.Common.{◌≡◌, ◌∙◌, ℕ, List, ap, drop, take, ◌++◌}
use Rattle.spe_model.specs.declared.page.Cell.{Cell}
use Rattle.spe_cut.specs.Run.{Run}
use Rattle.spe_insert.specs.Run.{run_of}
use Rattle.spe_insert.proofs.PlaceLemmas.{put_in, run_put}
use Rattle.spe_insert.proofs.place.with_children.Goals as goal

abbrev the_run : ℕ → List Cell → Run
the_run right cells = record { cells = cells; right = right }

pub returns : goal.returns
returns c =
    let n = c.args.place in
    let made = run_of c.set_child-cells.result in
    let cells : c.new.result ≡ (put_in n c.args.run.cells made).cells =
    c.new.ensures ∙ c.in_ok-cells.ensures ∙ ap (λ (cs : List Cell). take n cs ++ (c.into_vec-2.result.items ++ drop n cs)) c.into_vec.ensures
    ∙ ap (λ (cs : List Cell). take n made.cells ++ (cs ++ drop n made.cells)) c.into_vec-2.ensures in
    ap (the_run made.right) cells ∙ ap (put_in n c.args.run.cells) c.set_child-cells.ensures.child
    ∙ run_put n c.args.children.cells c.args.children.right (run_of c.args.run) c.requires
