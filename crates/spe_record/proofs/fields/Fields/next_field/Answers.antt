use Rattle.std.proofs.Common.{◌-◌, ◌∙◌, arith, sym}
use Rattle.spe_record.proofs.LentLemmas.{body_there, fields_behind, lent, type_there}
use Rattle.spe_record.proofs.fields.Fields.next_field.Goals as goal

pub unreachable-requires : goal.unreachable-requires
unreachable-requires c =
    type_there c.self.inside.types.now c.self.inside.body.now c.self.inside.count c.self.invariant (omega (arith, c.if-self-eq0.false)) (sym c.read_varint.ensures.value ∙ c.in_default.is)

pub split_at-requires : goal.split_at-requires
split_at-requires c =
    let few = body_there c.self.inside.types.now c.self.inside.body.now c.self.inside.count c.in-Some.kind c.in-Some.len c.self.invariant (sym c.read_varint.ensures.value ∙ c.in-Some.is) in
    omega (arith, few, c.size.ensures)

pub invariant_of-self : goal.invariant_of-self
invariant_of-self c =
    rw c.split_at-2.ensures.back
    (fields_behind c.self.inside.types.now c.self.inside.body.now c.self.inside.count (c.self.inside.count - 1) _ c.split_at.result.0.now c.split_at.result.1.now c.in-Some.kind c.in-Some.len c.self.invariant
    (sym c.read_varint.ensures.value ∙ c.in-Some.is) c.lent_as.ensures (rw c.size.ensures at c.split_at.ensures.front) (rw c.size.ensures at c.split_at.ensures.back) (omega (arith, c.if-self-eq0.false)))

pub returns : goal.returns
returns c =
    sym c.self.view_is
    ∙ rw c.split_at-2.ensures.back
    (lent c.self.inside.types.now c.self.inside.body.now c.self.inside.count _ c.split_at.result.0.now c.split_at.result.1.now c.in-Some.kind c.in-Some.len c.self.invariant
    (sym c.read_varint.ensures.value ∙ c.in-Some.is) c.lent_as.ensures (rw c.size.ensures at c.split_at.ensures.front) (rw c.size.ensures at c.split_at.ensures.back))
