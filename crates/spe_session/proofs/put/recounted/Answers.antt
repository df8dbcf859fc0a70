use Rattle.std.proofs.Common.{◌≡◌, ◌∙◌, ap, arith, length, take}
use Rattle.std.proofs.lemmas.List.{with_items_is}
use Rattle.spe_space.proofs.FrontLemmas.{length-recounted}
use Rattle.spe_session.proofs.FrontLemmas.{recounted_front}
use Rattle.spe_session.proofs.put.recounted.Goals as goal

pub returns-clause-len : goal.returns-clause-len
returns-clause-len c =
    let value : length c.as_mut_slice.result.now ≡ length c.args.front.items = ap length c.as_mut_slice.ensures.value in
    let long : length c.recount.new.front ≡ length c.args.front.items =
    ap length c.recount.ensures ∙ length-recounted c.args.pages c.as_mut_slice.result.now (omega (arith, c.requires, value)) ∙ value in
    ap length (c.new.ensures ∙ with_items_is c.args.front c.recount.new.front (omega (arith, long, c.args.front.ok))) ∙ long

pub returns-clause-front : goal.returns-clause-front
returns-clause-front c =
    let value : length c.as_mut_slice.result.now ≡ length c.args.front.items = ap length c.as_mut_slice.ensures.value in
    let front = recounted_front c.args.pages c.as_mut_slice.result.now (omega (arith, c.requires, value)) in
    let long : length c.recount.new.front ≡ length c.args.front.items =
    ap length c.recount.ensures ∙ length-recounted c.args.pages c.as_mut_slice.result.now (omega (arith, c.requires, value)) ∙ value in
    ap (take 24) (c.new.ensures ∙ with_items_is c.args.front c.recount.new.front (omega (arith, long, c.args.front.ok)) ∙ c.recount.ensures) ∙ front ∙ ap (take 24) c.as_mut_slice.ensures.value
