use Rattle.std.proofs.Common.{◌≡◌, ◌∙◌, true, ap, sym, arith}
use Rattle.std.proofs.Math.Path.{fun_ext}
use Rattle.spe_model.specs.Walk.{is_one_of}
use Rattle.spe_check.specs.Marked.{is_marked}
use Rattle.spe_check.specs.MetPages.{has_met}
use Rattle.spe_check.proofs.TriesLemmas.{names_passes}
use Rattle.spe_check.proofs.met.Met.meet.Goals as goal

pub returns-clause-tried : goal.returns-clause-tried
returns-clause-tried c =
    let one : is_one_of c.args.self.now.pages c.args.page ≡ true = grind (arith, c.if-page-eq0.false, c.if-page-self.false) in
    names_passes c.args.self.now.pages (has_met c.args.self.now) _ c.args.holder c.args.page one
    (ap (λ w. is_marked w c.args.page) (sym c.as_slice.ensures.value) ∙ sym c.is_marked.ensures ∙ c.if-is_marked.false)
    (fun_ext c.mark.ensures.marked)
