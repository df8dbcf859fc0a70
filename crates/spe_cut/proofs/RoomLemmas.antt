-- What a run in a child's place takes on its page.
use Rattle.std.proofs.Common.{◌≡◌, ◌∷◌, ◌++◌, true, false, arith}
use Rattle.spe_model.specs.declared.page.Kind.TheVariants.{TableInterior}
use Rattle.spe_format.specs.Canonical.{IsWritableCell}
use Rattle.spe_cut.specs.Parts.{RunIsWritable, RunTakesRoom}
use Rattle.spe_cut.specs.Run.{inner, last}
use Rattle.spe_cut.proofs.NeedLemmas.{need_append}
use Rattle.spe_cut.proofs.PartLemmas.{interior_few, writable_joined, writable_parts}
use Rattle.spe_cut.proofs.SizeLemmas.{same_size}

pub run_takes_room : RunTakesRoom
run_takes_room usable (inner before c after right) child run are were =
    let few = interior_few usable run.cells are in
    let old = need_append TableInterior before (record c { left = child } ∷ after) in
    let new = need_append TableInterior before (run.cells ++ (record c { left = run.right } ∷ after)) in
    let middle = need_append TableInterior run.cells (record c { left = run.right } ∷ after) in
    let same = same_size c child run.right in
    omega (arith, few, old, new, middle, same)
run_takes_room usable (last before) child run are were =
    let few = interior_few usable run.cells are in
    let new = need_append TableInterior before run.cells in
    omega (arith, few, new)

pub run_is_writable : RunIsWritable
run_is_writable usable (inner before c after right) child run are were =
    let parts = writable_parts TableInterior usable before (record c { left = child } ∷ after) were in
    let own = parts.1.0 in
    let cell : IsWritableCell TableInterior usable (record c { left = run.right }) =
    record { left = λ (leaf : false ≡ true). absurd cc; key = own.key; payload = own.payload; most = own.most; local = own.local; chain = own.chain } in
    writable_joined TableInterior usable before (run.cells ++ (record c { left = run.right } ∷ after)) parts.0
    (writable_joined TableInterior usable run.cells (record c { left = run.right } ∷ after) are (cell, parts.1.1))
run_is_writable usable (last before) child run are were = writable_joined TableInterior usable before run.cells were are
