use Rattle.std.proofs.Common.{◌≡◌, ◌∷◌, [], List, ℕ, false, length, ap, arith, drop, take, ◌∙◌}
use Rattle.spe_model.specs.declared.page.Cell.{Cell}
use Rattle.spe_model.specs.declared.page.Kind.TheVariants.{TableLeaf}
use Rattle.spe_cut.specs.Parts.{AreLeaves, need, room}
use Rattle.spe_cut.specs.Place.{IsCutAt, parts_at}
use Rattle.spe_cut.proofs.PartLemmas.{around_answer, none_so, ok_so, total_few, two_answer}
use Rattle.spe_cut.proofs.parts.leaf_parts.Goals as goal

pub need_of-total-requires : goal.need_of-total-requires
need_of-total-requires c =
    let few = total_few c.args.usable c.args.place c.args.cells c.requires.low c.requires.writable.cells c.requires.place c.requires.fits in
    rw c.as_slice-list.ensures (omega (arith, few, c.requires.high))

pub cut_place-requires-clause-few : goal.cut_place-requires-clause-few
cut_place-requires-clause-few c =
    let few = total_few c.args.usable c.args.place c.args.cells c.requires.low c.requires.writable.cells c.requires.place c.requires.fits in
    let total : c.need_of-total.result ≡ need TableLeaf c.args.cells = c.need_of-total.ensures ∙ ap (need TableLeaf) c.as_slice-list.ensures in
    omega (arith, few, total, c.requires.high)

pub returns-in-Some-clause-parts : goal.returns-in-Some-clause-parts
returns-in-Some-clause-parts c =
    ok_so c.two_parts.result (λ (parts : List (List Cell)). parts ≡ take c.in-Some.at c.into_vec.result.items ∷ drop c.in-Some.at c.into_vec.result.items ∷ [])
    (AreLeaves c.args.usable c.args.cells)
    (λ parts is. two_answer c.args.usable c.in-Some.at c.room_of-most.result c.args.cells c.as_slice-list.result.now c.into_vec.result.items parts c.requires.writable
    c.as_slice-list.ensures c.into_vec.ensures c.room_of-most.ensures c.in-Some.ensures.fits is) c.two_parts.ensures

pub returns-in-None-clause-parts : goal.returns-in-None-clause-parts
returns-in-None-clause-parts c =
    ok_so c.parts_around.result (λ (parts : List (List Cell)). parts ≡ parts_at c.args.place c.into_vec-in-None.result.items) (AreLeaves c.args.usable c.args.cells)
    (λ parts is. around_answer c.args.usable c.args.place c.args.cells c.into_vec-in-None.result.items parts c.requires.low c.requires.writable c.requires.place c.requires.fits
    c.into_vec-in-None.ensures is) c.parts_around.ensures

pub returns-in-Some-clause-three : goal.returns-in-Some-clause-three
returns-in-Some-clause-three c =
    ok_so c.two_parts.result (λ (parts : List (List Cell)). parts ≡ take c.in-Some.at c.into_vec.result.items ∷ drop c.in-Some.at c.into_vec.result.items ∷ [])
    (λ (parts : List (List Cell)). c.args.at_end ≡ false → length parts ≡ 3 → (at : ℕ) → ¬ IsCutAt (room TableLeaf 0 c.args.usable) c.args.cells at)
    (λ parts is middle three at cut. let two : length parts ≡ 2 = ap length is in absurd (omega (arith, two, three))) c.two_parts.ensures

pub returns-in-None-clause-three : goal.returns-in-None-clause-three
returns-in-None-clause-three c =
    ok_so c.parts_around.result (λ (parts : List (List Cell)). parts ≡ parts_at c.args.place c.into_vec-in-None.result.items)
    (λ (parts : List (List Cell)). c.args.at_end ≡ false → length parts ≡ 3 → (at : ℕ) → ¬ IsCutAt (room TableLeaf 0 c.args.usable) c.args.cells at)
    (λ parts is middle three. none_so c.room_of-most.result (room TableLeaf 0 c.args.usable) c.as_slice-list.result.now c.args.cells c.room_of-most.ensures c.as_slice-list.ensures
    (c.in-None.ensures.none middle)) c.parts_around.ensures
