use Rattle.std.proofs.Common.{arith}
use Rattle.spe_search.proofs.InsideLemmas.{misses_last}
use Rattle.spe_search.proofs.last.largest.Goals as goal

pub returns-clause-adds : goal.returns-clause-adds
returns-clause-adds g c = λ pages agrees height tree n. c.last_below.ensures.adds pages agrees height 0 18446744073709551616 _ 18446744073709551616 tree.0 tree.1 (omega arith) (omega arith) n

pub returns-clause-page_out : goal.returns-clause-page_out
returns-clause-page_out g c = λ pages agrees height tree. c.last_below.ensures.page_out pages agrees height 0 18446744073709551616 _ 18446744073709551616 tree.0 tree.1 (omega arith) (omega arith)

pub returns-clause-inside : goal.returns-clause-inside
returns-clause-inside g c =
    misses_last g.S.Pages c.args.space.now c.last_below.new.space c.args.root c.last_below.result
    (λ pages agrees height tree. c.last_below.ensures.page_out pages agrees height 0 18446744073709551616 _ 18446744073709551616 tree.0 tree.1 (omega arith) (omega arith))
