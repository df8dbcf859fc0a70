use Rattle.std.proofs.Common.{◌≡◌, ◌+◌, ◌-◌, ◌++◌}
use Rattle.spe_model.specs.Journal.{numbers_from}
use Rattle.spe_convert.proofs.server.supply.Given as goal

abbrev pub invariant-loop-page : goal.invariant-loop-page
invariant-loop-page l =
    l.all.items ++ numbers_from l.page (l.fn.pages + 1 + l.fn.added - l.page) ≡ l.fn.free ++ numbers_from (l.fn.pages + 1) l.fn.added
