use Rattle.std.proofs.Common.{refl, rules}
use Rattle.spe_lex.proofs.QuoteLemmas.{quote_one, quote_two}
use Rattle.spe_lex.proofs.piece.before_quote.Goals as goal

pub loop-left-preserved-then-first-quote : goal.loop-left-preserved-then-first-quote
loop-left-preserved-then-first-quote c = record {
  counted = quote_one c.loop-left.count c.args.quote c.loop-left.left.now _ c.in-len1-up.len_at_least c.if-first-quote.true c.loop-left.invariant.counted;
  rest = search rules;
}

pub loop-left-preserved : goal.loop-left-preserved
loop-left-preserved c = record {
  counted =
      quote_two c.loop-left.count c.args.quote c.loop-left.left.now _ _ c.in-len1-up.len_at_least c.if-first-quote.false refl c.in-len1-up-rest.len_at_least c.if-second-quote.false
      c.loop-left.invariant.counted;
  rest = search rules;
}
