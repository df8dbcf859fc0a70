use Rattle.std.proofs.Common.{◌≡◌, arith, to_z, of_z, w64, to_z-of_z}
use Rattle.spe_model.specs.declared.value.Value.TheVariants.{Int}
use Rattle.spe_serve.proofs.AliasLemmas.{alias_put, alias_out, alias_none}
use Rattle.spe_serve.proofs.row.put_alias.Goals as goal

pub returns-then-place-values : goal.returns-then-place-values
returns-then-place-values c =
    let same : to_z w64 (of_z w64 c.args.rowid) ≡ c.args.rowid = grind (arith, to_z-of_z) in
    rw same (alias_put c.args.alias c.in-Some.place (Int c.args.rowid) c.args.values.now c.in-Some.is (omega (arith, c.if-place-values.true)))

pub returns-else-place-values : goal.returns-else-place-values
returns-else-place-values c = alias_out c.args.alias c.in-Some.place (Int c.args.rowid) c.args.values.now c.in-Some.is (omega (arith, c.if-place-values.false))

pub returns-in_default : goal.returns-in_default
returns-in_default c = alias_none c.args.alias (Int c.args.rowid) c.args.values.now c.in_default.is
