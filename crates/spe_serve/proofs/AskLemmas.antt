-- The answers of commands over the pages of a space.
use Rattle.std.proofs.Common.{◌≡◌, ℕ, ◌≤◌, List, Result, Ok, Err, IfErr, sym, subst}
use Rattle.spe_model.specs.declared.verdict.Verdict.{Verdict}
use Rattle.spe_model.specs.declared.verdict.Verdict.TheVariants as verdicts
use Rattle.spe_model.specs.Database.{Database}
use Rattle.spe_model.specs.Paging.{Paging}
use Rattle.spe_model.specs.Rows.{table_named}
use Rattle.spe_model.specs.Standing.{StandsFor}
use Rattle.spe_model.specs.Verdict.{verdict_of}
use Rattle.spe_space.specs.declared.fault.TreeFault.{TreeFault}
use Rattle.spe_space.specs.declared.fault.TreeFault.TheVariants.{Space, Corrupt}
use Rattle.spe_verdict.specs.Law.{StandsIsTrue}
use Rattle.spe_serve.specs.declared.reply.Reply.{Reply}
use Rattle.spe_serve.specs.Answer.{IsOfVerdict, reply_of_table}
use Rattle.spe_words.specs.declared.command.Command.TheVariants as commands
use Rattle.spe_serve.specs.Space.{AsksInside, IsFaultAbout, IsOfFront, Undamaged}

-- pages that stand, and what is said of a table over them
pub standing_reply : (name : List ℕ) (usable count : ℕ) (pages : Paging) (tables rows free : ℕ) (result : Result Reply TreeFault) → 480 ≤ usable → StandsIsTrue
    → verdicts.Stands tables rows free ≡ verdict_of usable count pages
    → ((db : Database) → StandsFor usable count pages db → Undamaged (λ reply. reply ≡ reply_of_table (table_named name db)) result)
    → Undamaged (IsOfVerdict name usable count pages (verdict_of usable count pages)) result
standing_reply name usable count pages tables rows free result wide law is gives =
    subst (λ (v : Verdict). Undamaged (IsOfVerdict name usable count pages v) result) is (go result (gives found.0 found.1))
  where
    found : (db : Database) × StandsFor usable count pages db
    found = let both = law usable count pages tables rows free wide (sym is) in (both.0, both.1)

    go : (r : Result Reply TreeFault) → Undamaged (λ reply. reply ≡ reply_of_table (table_named name found.0)) r
        → Undamaged (IsOfVerdict name usable count pages (verdicts.Stands tables rows free)) r
    go (Ok reply) same = record { db = found.0; stands = found.1; reply_is = same }
    go (Err (Space f)) h = tt
    go (Err (Corrupt page)) h = h

-- what is said of the fault of each command
pub rows_fault : (db table : List ℕ) (count : ℕ) (result : Result Reply TreeFault) → IfErr result (IsFaultAbout (commands.Rows db table) count)
rows_fault db table count (Ok reply) = tt
rows_fault db table count (Err fault) = tt

pub check_fault : (db : List ℕ) (count : ℕ) (result : Result Reply TreeFault) → IfErr result IsOfFront → AsksInside count result
    → IfErr result (IsFaultAbout (commands.Check db) count)
check_fault db count (Ok reply) front asks = tt
check_fault db count (Err fault) front asks = (front, asks)
