-- What a verdict says.
use Rattle.std.proofs.Common.{◌≡◌, ℕ, [], refl, sym, ◌∙◌, Option, Some, None}
use Rattle.spe_model.specs.declared.verdict.Verdict.TheVariants as verdicts
use Rattle.spe_model.specs.Paging.{Paging}
use Rattle.spe_model.specs.Verdict.{all_marks, verdict_of, verdict_with}
use Rattle.spe_model.specs.Walk.{first_broken}
use Rattle.spe_verdict.specs.Law.{AreUnbroken, BrokenIsTrue, StandsIsTrue, free_in, rows_in_tables, tables_in}
use Rattle.spe_verdict.proofs.CountLemmas.{counts}
use Rattle.spe_verdict.proofs.StandLemmas.{sound}

none_of : (usable count : ℕ) (pages : Paging) (broken : Option (ℕ × ℕ)) (tables rows free : ℕ)
    → verdict_with usable count pages broken ≡ verdicts.Stands tables rows free → broken ≡ None
none_of usable count pages None tables rows free is = refl
none_of usable count pages (Some broken) tables rows free is = absurd cc

unbroken_of : (usable count : ℕ) (pages : Paging) (tables rows free : ℕ) → verdict_of usable count pages ≡ verdicts.Stands tables rows free → AreUnbroken usable count pages
unfolding verdict_of
unbroken_of usable count pages tables rows free is = none_of usable count pages (first_broken count [] (all_marks usable count pages)) tables rows free is

same_counts : (t r f u s g : ℕ) → verdicts.Stands t r f ≡ verdicts.Stands u s g → (t ≡ u) × (r ≡ s) × (f ≡ g)
same_counts t r f u s g same = (cc, cc, cc)

pub stands : StandsIsTrue
stands usable count pages tables rows free least is =
    let found = sound usable count pages least (unbroken_of usable count pages tables rows free is) in
    let db = found.0 in
    let standing = found.1 in
    let same = same_counts tables rows free (tables_in db) (rows_in_tables db) (free_in pages standing.lists) (sym is ∙ counts usable count pages db least standing) in
    (db, standing, same.0, same.1, same.2)

pub broken : BrokenIsTrue
broken usable count pages page rule least is db standing =
    let both : verdicts.Broken page rule ≡ verdicts.Stands (tables_in db) (rows_in_tables db) (free_in pages standing.lists) =
    sym is ∙ counts usable count pages db least standing in
    absurd cc
