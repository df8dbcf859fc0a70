use Rattle.std.proofs.Common.{List, map, ap, refl, subst, arith}
use Rattle.std.specs.Option.{option_copied}
use Rattle.spe_search.specs.declared.pairs.Pair.{Pair}
use Rattle.spe_search.specs.Pairs.{pair_seen}
use Rattle.spe_exec.specs.Changing.{IsChange, IsShortChange}
use Rattle.spe_exec.proofs.ChangingLemmas.{gather_damage, gather_more, short_more}
use Rattle.spe_exec.proofs.RowsLemmas.{front_is}
use Rattle.spe_exec.proofs.changing.change_rows.Goals as goal

pub returns-in-Damage : goal.returns-in-Damage
returns-in-Damage c =
    let given = map option_copied c.args.given.now in
    let first = c.pair-item.result in
    record {
      changes = gather_damage c.args.table.now given (map pair_seen c.args.pairs.now) (map pair_seen c.loop-left.left.now) _ (pair_seen first) c.loop-left.made.items
          (ap (λ (xs : List Pair). map pair_seen xs) (front_is c.loop-left.left.now first _ (omega (arith, c.in-len1-up.len_at_least)) c.pair-item.is refl))
          (subst (IsChange c.args.table.now given (pair_seen first)) c.in-Damage.is c.in_ok-stored.ensures.change) c.loop-left.invariant.0;
      short = tt;
    }

pub loop-left-preserved : goal.loop-left-preserved
loop-left-preserved c =
    let given = map option_copied c.args.given.now in
    let first = c.pair-item.result in (
      gather_more c.args.table.now given (map pair_seen c.args.pairs.now) (map pair_seen c.loop-left.left.now) _ (pair_seen first) c.loop-left.made.items c.push.new.self.items c.in-Record.stored
          (ap (λ (xs : List Pair). map pair_seen xs) (front_is c.loop-left.left.now first _ (omega (arith, c.in-len1-up.len_at_least)) c.pair-item.is refl))
          c.in_ok-push-in-Record.ensures.items (subst (IsChange c.args.table.now given (pair_seen first)) c.in-Record.is c.in_ok-stored.ensures.change) c.loop-left.invariant.0,
      short_more c.loop-left.made.items c.push.new.self.items c.in-Record.stored c.in_ok-push-in-Record.ensures.items (subst IsShortChange c.in-Record.is c.in_ok-stored.ensures.short) c.loop-left.invariant.1,
    )
