-- Two children of a page that became others.
use Rattle.std.proofs.Common.{ℕ, ◌++◌, ◌∙◌, List, ℤ, sym, ap, subst}
use Rattle.spe_frame.specs.Times.{AreSame}
use Rattle.spe_cut.specs.Run.{IsRun, Run, pages_beside, pages_in, rows_in}
use Rattle.spe_cut.specs.Stretch.{IsStretch, RunChanges, StretchBecomesRun, StretchOfRun}
use Rattle.spe_mend.specs.Mended.{PairBecomesRun, PairOfRun, pair_of}
use Rattle.spe_mend.specs.Stretch.{pair_place}
use Rattle.spe_mend.proofs.StretchLemmas.{pair_stands}

pub pair_of_run : StretchOfRun → PairOfRun
pair_of_run stretch usable pages height low high n children are within is =
    let place = pair_place n children in
    let two = pair_of n children in
    let there = pair_stands usable n children are within in
    let at : IsStretch usable pages height low high place two = stretch usable pages height low high place two (subst (IsRun usable pages height low high) (sym there) is) in
    record {
      run = at.run;
      pages_are = subst (λ (r : Run). AreSame (pages_in usable pages height r) (pages_in usable pages height two ++ pages_beside usable pages height place)) there at.pages_are;
    }

pub pair_becomes : StretchBecomesRun → PairBecomesRun
pair_becomes becomes usable old new height low high n children run x =
    let place = pair_place n children in
    let two = pair_of n children in
    let there = pair_stands usable n children x.writable x.within in
    let all : RunChanges usable old new height low high place two run = becomes usable old new height low high place two run (record {
      was = subst (IsRun usable old height low high) (sym there) x.was;
      now = x.now;
      last = x.last;
      others = x.others;
    }) in
    record {
      is = all.is;
      rows = all.rows.new ∙ ap (λ (part : List (ℤ × List ℕ)). all.rows.before ++ (part ++ all.rows.after)) x.rows ∙ sym all.rows.old ∙ ap (rows_in usable old height) there;
      pages_are = all.pages_are;
    }
