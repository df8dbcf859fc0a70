use Rattle.std.proofs.Common.{◌≡◌, ◌≢◌, ◌<◌, ◌+◌, ◌-◌, ◌∙◌, ℕ, arith, subst, sym}
use Rattle.spe_check.specs.Trunks.{IsAmong}
use Rattle.spe_check.proofs.TriesLemmas.{halts_same, the_ok, the_err}
use Rattle.spe_check.proofs.TrunkLemmas.{among_next, among_halt, among_end, among_full}
use Rattle.spe_check.proofs.ShownLemmas.{shows_before, walked_both}
use Rattle.spe_model.specs.Walk.{Names}
use Rattle.std.specs.Prelude.{[], ◌∷◌}
use Rattle.spe_check.specs.MetPages.{has_met}
use Rattle.spe_check.proofs.trunk.try_trunks.Goals as goal

pub returns-in-Ok-clause-tried : goal.returns-in-Ok-clause-tried
returns-in-Ok-clause-tried g c = λ usable pages shows.
    let some : c.trunks.trunk ≢ 0 = grind (arith, c.trunks-test.true) in
    let none : c.trunks.most ≡ 0 = grind (arith, c.if-most-eq0.true) in
    let P : ℕ → Type 0 = λ m. IsAmong usable pages c.args.met.now c.trunks.met c.args.holder c.args.first c.trunks.free m c.trunks.at c.trunks.trunk in
    among_full usable pages c.args.met.now c.trunks.met c.meet.new.self c.args.holder c.args.first c.trunks.free c.trunks.at c.trunks.trunk (the_ok ℕ c.trunks.free) some
    c.trunks.invariant.walked.pages (subst P none (c.trunks.invariant.among usable pages shows)) c.in-Ok.ensures.tried

pub returns-in-Err-clause-tried : goal.returns-in-Err-clause-tried
returns-in-Err-clause-tried g c = λ usable pages shows.
    let some : c.trunks.trunk ≢ 0 = grind (arith, c.trunks-test.true) in
    let none : c.trunks.most ≡ 0 = grind (arith, c.if-most-eq0.true) in
    let P : ℕ → Type 0 = λ m. IsAmong usable pages c.args.met.now c.trunks.met c.args.holder c.args.first c.trunks.free m c.trunks.at c.trunks.trunk in (
      (among_full usable pages c.args.met.now c.trunks.met c.meet.new.self c.args.holder c.args.first c.trunks.free c.trunks.at c.trunks.trunk (the_err ℕ c.in-Err.halt) some
          c.trunks.invariant.walked.pages (subst P none (c.trunks.invariant.among usable pages shows))
          (halts_same (Unit {0}) ℕ c.trunks.met.pages (has_met c.trunks.met) (has_met c.meet.new.self) (Names c.trunks.at c.trunks.trunk ∷ []) c.in-Err.halt c.in-Err.ensures.tried)).0,
      tt,
    )

pub returns-in-Err-try_trunk-clause-tried : goal.returns-in-Err-try_trunk-clause-tried
returns-in-Err-try_trunk-clause-tried g c = λ usable pages shows.
    let some : c.trunks.trunk ≢ 0 = grind (arith, c.trunks-test.true) in
    let more : 0 < c.trunks.most = grind (arith, c.if-most-eq0.false) in
    let now = shows_before g.S.Pages c.trunks.space c.try_trunk.new.space usable pages c.in-Err-try_trunk.ensures.walked.reads shows in (
      among_halt usable pages c.args.met.now c.trunks.met c.try_trunk.new.met c.args.holder c.args.first c.trunks.free c.trunks.most c.trunks.at c.trunks.trunk c.in-Err-try_trunk.halt
          some more c.trunks.invariant.walked.pages (c.trunks.invariant.among usable pages now) (c.in-Err-try_trunk.ensures.tried usable pages shows).0,
      tt,
    )

pub trunks-preserved : goal.trunks-preserved
trunks-preserved g c =
    let some : c.trunks.trunk ≢ 0 = grind (arith, c.trunks-test.true) in
    let more : 0 < c.trunks.most = grind (arith, c.if-most-eq0.false) in
    record {
      walked = walked_both g.S.Pages c.args.space.now c.trunks.space c.try_trunk.new.space c.args.met.now c.trunks.met c.try_trunk.new.met c.trunks.invariant.walked c.in-Ok-try_trunk.ensures.walked;
      refusal = c.in-Ok-try_trunk.ensures.refusal ∙ c.trunks.invariant.refusal;
      buf = omega (arith, c.try_trunk.auto.buf, c.trunks.invariant.buf);
      few = omega (arith, c.in-Ok-try_trunk.ensures.few, c.trunks.invariant.few, more, c.from.ensures);
      among = λ usable pages shows.
          let now = shows_before g.S.Pages c.trunks.space c.try_trunk.new.space usable pages c.in-Ok-try_trunk.ensures.walked.reads shows in
          let tried = c.in-Ok-try_trunk.ensures.tried usable pages shows in
          let R : ℕ → Type 0 = λ n. IsAmong usable pages c.args.met.now c.try_trunk.new.met c.args.holder c.args.first (c.trunks.free + (1 + n)) (c.trunks.most - 1) c.trunks.trunk c.in-Ok-try_trunk.found.next in
          subst R (sym c.from.ensures) (among_next usable pages c.args.met.now c.trunks.met c.try_trunk.new.met c.args.holder c.args.first c.trunks.free c.trunks.most c.trunks.at c.trunks.trunk c.in-Ok-try_trunk.found
          some more c.trunks.invariant.walked.pages (c.trunks.invariant.among usable pages now) tried.0 tried.1);
    }

pub returns-clause-tried : goal.returns-clause-tried
returns-clause-tried g c = λ usable pages shows.
    among_end usable pages c.args.met.now c.trunks.met c.args.holder c.args.first c.trunks.free c.trunks.most c.trunks.at c.trunks.trunk (grind (arith, c.trunks-test.false)) (c.trunks.invariant.among usable pages shows)
