use Rattle.std.proofs.Common.{List, refl, sym, arith, subst}
use Rattle.spe_model.specs.declared.reply.Reply.{Reply}
use Rattle.spe_session.specs.Carried.{IsFront, WhereBegun}
use Rattle.spe_session.proofs.CarriedLemmas.{first_is, front, more}
use Rattle.spe_session.proofs.carrying.carry_out.Goals as goal

pub returns-in-Err-clause-front : goal.returns-in-Err-clause-front
returns-in-Err-clause-front g c =
    front g.S.Pages c.args.space.now c.loop-left.space c.run.new.space c.args.catalog.now c.args.kind c.args.statements.now c.loop-left.left.now c.loop-left.replies.items
    c.in-Err.ensures.kept c.loop-left.invariant

pub returns-in-Err-push-clause-front : goal.returns-in-Err-push-clause-front
returns-in-Err-push-clause-front g c =
    subst (λ (rs : List Reply). WhereBegun g.S.Pages c.args.space.now c.args.catalog.now c.args.kind (λ opening. IsFront g.S.Pages opening c.args.kind c.args.statements.now rs c.run.new.space))
    (sym c.in-Err-push.ensures.items)
    (front g.S.Pages c.args.space.now c.loop-left.space c.run.new.space c.args.catalog.now c.args.kind c.args.statements.now c.loop-left.left.now c.loop-left.replies.items
    c.in-Ok.ensures.kept c.loop-left.invariant)

pub loop-left-preserved : goal.loop-left-preserved
loop-left-preserved g c =
    more g.S.Pages c.args.space.now c.loop-left.space c.run.new.space c.args.catalog.now c.args.kind c.args.statements.now c.loop-left.left.now _ c.statement-item.result
    c.loop-left.replies.items c.push.new.self.items c.in-Ok.reply c.requires.lists c.justified_more.ensures.run
    (first_is c.loop-left.left.now c.statement-item.result _ (omega (arith, c.in-len1-up.len_at_least)) c.statement-item.is refl)
    c.in-Ok-push.ensures.items c.in-Ok.ensures.refusal c.in-Ok.ensures.kept c.in-Ok.ensures.meaning c.loop-left.invariant
