use Rattle.std.proofs.Common.{[], ℕ, arith}
use Rattle.std.specs.Prelude.{take}
use Rattle.spe_model.specs.Database.{Database}
use Rattle.spe_model.specs.Justified.{ServedSince}
use Rattle.spe_model.specs.Paging.{Paging}
use Rattle.spe_verdict.proofs.HeaderLemmas.{legal_usable}
use Rattle.spe_cases_session.proofs.tests.endings.commit.Goals as goal

-- no pages are served that have no usable bytes
never_served : (count : ℕ) (pages : Paging) (db : Database) → ServedSince (record { usable = 0; catalog = []; trunks = [] }) count pages db → ⊥
never_served count pages db since =
    let header = since.served.header in
    absurd (omega (arith, since.usable, legal_usable (take 100 (pages 1)) header since.served.front.legal))

pub commit-store-requires-clause-replied : goal.commit-store-requires-clause-replied
commit-store-requires-clause-replied c = λ count pages db since agrees. absurd (never_served count pages db since)

pub commit-store-requires-clause-served : goal.commit-store-requires-clause-served
commit-store-requires-clause-served c = λ count pages db since agrees. absurd (never_served count pages db since)
