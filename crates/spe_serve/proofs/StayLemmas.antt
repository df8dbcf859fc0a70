-- Answers that a crash leaves right.
use Rattle.std.proofs.Common.{◌≡◌, ℕ, List, [], length, Bool, true, false, Option, Some, None, Result, refl, sym, ap, ◌∙◌, subst, ⊎_elim}
use Rattle.std.specs.Prelude.{◌⊎◌, is_some, not}
use Rattle.spe_model.specs.declared.file.FileNo.TheVariants as files
use Rattle.spe_model.specs.declared.recovery.RecoverFault.{RecoverFault}
use Rattle.spe_model.specs.declared.verdict.Verdict.{Verdict}
use Rattle.spe_model.specs.declared.verdict.Verdict.TheVariants as verdicts
use Rattle.spe_model.specs.Content.{Content, file_of}
use Rattle.spe_model.specs.Covered.{Recovers}
use Rattle.spe_model.specs.Database.{Database}
use Rattle.spe_model.specs.Paging.{Paging}
use Rattle.spe_model.specs.Recovery.{recovered}
use Rattle.spe_model.specs.Rows.{table_named}
use Rattle.spe_model.specs.Served.{usable_in}
use Rattle.spe_model.specs.Settled.{header_in, page_in}
use Rattle.spe_model.specs.Standing.{Whether}
use Rattle.spe_model.specs.Trace.{Operation, History, IsCut, after, present}
use Rattle.spe_model.specs.Verdict.{verdict_of}
use Rattle.spe_crash.specs.Pages.{RecoveredAreHeaded}
use Rattle.spe_verdict.specs.Law.{AreUnbroken, LegalStandingAreUnbroken, StandForOne}
use Rattle.spe_words.specs.declared.command.Command.{Command}
use Rattle.spe_words.specs.declared.command.Command.TheVariants as commands
use Rattle.spe_serve.specs.declared.reply.Reply.{Reply}
use Rattle.spe_serve.specs.Answer.{IsOfFile, IsOfRecovery, IsOfSound, IsOfStanding, IsOfVerdict, IsOverFound, IsOverRecovered, IsOverWanted, reply_of_table}
use Rattle.spe_serve.specs.Ending.{AnswersStay, Stays, is_lasting}
use Rattle.spe_serve.specs.Own.{AreOldOrNew, HasWritten, LeavesPagesFor, StandOver, are_sound, is_standing, is_writing}
use Rattle.spe_serve.specs.Reply.{is_done}
use Rattle.spe_serve.proofs.CrashLemmas.{after_there, cut_absent}
use Rattle.spe_serve.proofs.FormLemmas.{sound_preparing}

-- pages that stand for a database break no rule
unbroken : (count : ℕ) (usable : ℕ) (pages : Paging) → AreUnbroken usable count pages → is_standing (verdict_of usable count pages) ≡ true
unfolding verdict_of
unbroken count usable pages none = rw none refl

sound_now : (content : Content) (pages : List (List ℕ)) (db : Database) → RecoveredAreHeaded → LegalStandingAreUnbroken → Recovers content pages → StandOver pages db → are_sound pages ≡ true
sound_now content pages db headed law recovers stands =
    let head = headed content pages recovers in
    unbroken (length pages) (usable_in (header_in pages)) (page_in pages)
    (law (length pages) (page_in pages) db (header_in pages) head.legal (record { header = header_in pages; legal = head.legal; body = stands }))

-- the rows of a table over pages that break no rule
standing_rows : (name : List ℕ) (usable count : ℕ) (pages : Paging) (v : Verdict) (reply : Reply) → is_standing v ≡ true → IsOfVerdict name usable count pages v reply
    → IsOfStanding name usable count pages reply
standing_rows name usable count pages (verdicts.Stands tables rows free) reply is of = of
standing_rows name usable count pages (verdicts.Broken page rule) reply is of = absurd cc

rows_standing : (name : List ℕ) (usable count : ℕ) (pages : Paging) (v : Verdict) (reply : Reply) → is_standing v ≡ true → IsOfStanding name usable count pages reply
    → IsOfVerdict name usable count pages v reply
rows_standing name usable count pages (verdicts.Stands tables rows free) reply is of = of
rows_standing name usable count pages (verdicts.Broken page rule) reply is of = absurd cc

-- a command writes only where no rule is broken
sound_writing : (c : Command) (pages : List (List ℕ)) → is_writing c pages ≡ true → are_sound pages ≡ true
sound_writing (commands.Rows db table) pages writing = absurd cc
sound_writing (commands.Check db) pages writing = absurd cc
sound_writing (commands.Prepare db lists) pages writing = sound_preparing lists pages writing
sound_writing (commands.Release db) pages writing = writing
sound_writing (commands.Run db scripts workers retries slots) pages writing = absurd cc
sound_writing (commands.Work db seed count) pages writing = absurd cc

-- over new pages that stand for the same database they are the same
rows_over : (c : Command) (content now : Content) (db table : List ℕ) (reply : Reply) → RecoveredAreHeaded → LegalStandingAreUnbroken → StandForOne
    → (written : HasWritten c content now) → IsOverRecovered (commands.Rows db table) written.pages reply → IsOverRecovered (commands.Rows db table) written.later reply
rows_over c content now db table reply headed law one written of =
    let old = written.pages in let new = written.later in
    let was = standing_rows table (usable_in (header_in old)) (length old) (page_in old) _ reply (sound_writing c old written.writing) of in
    rows_standing table (usable_in (header_in new)) (length new) (page_in new) _ reply
    (sound_now now new written.same.db headed law written.recovers_later written.same.now)
    (record {
      db = written.same.db;
      stands = written.same.now;
      reply_is = was.reply_is
          ∙ ap (λ (d : Database). reply_of_table (table_named table d)) (one (usable_in (header_in old)) (length old) (page_in old) was.db written.same.db was.stands written.same.before);
    })

-- an answer over a content whose recovered pages are others, of which it holds too
abbrev Carries : Command → (content now : Content) → Reply → Type 0
Carries c content now reply = IsOfRecovery c (recovered content) reply → IsOfRecovery c (recovered now) reply

carried : (c : Command) (content now : Content) (reply : Reply) → Carries c content now reply → (is_some (file_of content files.Database) ≡ true → is_some (file_of now files.Database) ≡ true)
    → (file_of content files.Database ≡ None → file_of now files.Database ≡ None)
    → IsOfFile c content (file_of content files.Database) reply → IsOfFile c now (file_of now files.Database) reply
carried c content now reply carries there absent is = by_files (file_of content files.Database) (file_of now files.Database) there absent is
  where
    by_files : (old new : Option (List ℕ)) → (is_some old ≡ true → is_some new ≡ true) → (old ≡ None → new ≡ None) → IsOfFile c content old reply → IsOfFile c now new reply
    by_files None None there absent is = is
    by_files None (Some file) there absent is = absurd (let none = absent refl in cc)
    by_files (Some file) None there absent is = absurd (let some = there refl in cc)
    by_files (Some file) (Some other) there absent is = carries is

rows_carry : (c : Command) (content now : Content) (db table : List ℕ) (reply : Reply) → RecoveredAreHeaded → LegalStandingAreUnbroken → StandForOne
    → HasWritten c content now → Carries (commands.Rows db table) content now reply
rows_carry c content now db table reply headed law one written = λ is.
    subst (λ (r : Result (List (List ℕ)) RecoverFault). IsOfRecovery (commands.Rows db table) r reply) (sym written.recovers_later)
    (rows_over c content now db table reply headed law one written
    (subst (λ (r : Result (List (List ℕ)) RecoverFault). IsOfRecovery (commands.Rows db table) r reply) written.recovers is))

same_carries : (c : Command) (content now : Content) (reply : Reply) → recovered now ≡ recovered content → Carries c content now reply
same_carries c content now reply same = λ is. subst (λ (r : Result (List (List ℕ)) RecoverFault). IsOfRecovery c r reply) (sym same) is

-- the rows, whatever the command
rows_by : (c : Command) (content now : Content) (db table : List ℕ) (reply : Reply) → RecoveredAreHeaded → LegalStandingAreUnbroken → StandForOne
    → AreOldOrNew c content now → Carries (commands.Rows db table) content now reply
rows_by (commands.Rows file name) content now db table reply headed law one same = same_carries (commands.Rows db table) content now reply same
rows_by (commands.Check file) content now db table reply headed law one same = same_carries (commands.Rows db table) content now reply same
rows_by (commands.Prepare file lists) content now db table reply headed law one either = ⊎_elim
    (λ (same : recovered now ≡ recovered content). same_carries (commands.Rows db table) content now reply same)
    (λ (written : HasWritten (commands.Prepare file lists) content now). rows_carry (commands.Prepare file lists) content now db table reply headed law one written)
    either
rows_by (commands.Release file) content now db table reply headed law one either = ⊎_elim
    (λ (same : recovered now ≡ recovered content). same_carries (commands.Rows db table) content now reply same)
    (λ (written : HasWritten (commands.Release file) content now). rows_carry (commands.Release file) content now db table reply headed law one written)
    either
rows_by (commands.Run file scripts workers retries slots) content now db table reply headed law one same = same_carries (commands.Rows db table) content now reply same
rows_by (commands.Work file seed count) content now db table reply headed law one same = same_carries (commands.Rows db table) content now reply same

-- a refusal of `release` is none of pages that it writes
sound_refusal : (usable count : ℕ) (pages : Paging) (v : Verdict) (reply : Reply) → is_standing v ≡ true → is_lasting (commands.Release []) reply ≡ true
    → IsOfSound usable count pages v reply → ⊥
sound_refusal usable count pages (verdicts.Stands tables rows free) reply is lasting of = let done = ap (is_lasting (commands.Release [])) of.reply_is in cc
sound_refusal usable count pages (verdicts.Broken page rule) reply is lasting of = cc

-- nor is one of `prepare`
done_lasting : (db : List ℕ) (lists : ℕ) (reply : Reply) → is_done reply ≡ true → is_lasting (commands.Prepare db lists) reply ≡ true → ⊥
done_lasting db lists reply done lasting = let never : not true ≡ true = ap not (sym done) ∙ lasting in cc

never_refused : (c : Command) (pages : List (List ℕ)) (reply : Reply) → is_writing c pages ≡ true → is_lasting c reply ≡ true → IsOverFound c pages reply → ⊥
never_refused (commands.Rows db table) pages reply writing lasting is = cc
never_refused (commands.Check db) pages reply writing lasting is = cc
never_refused (commands.Prepare db lists) pages reply writing lasting is = done_lasting db lists reply (ap is_done is ∙ writing) lasting
never_refused (commands.Release db) pages reply writing lasting is =
    sound_refusal (usable_in (header_in pages)) (length pages) (page_in pages) _ reply writing lasting is
never_refused (commands.Run db scripts workers retries slots) pages reply writing lasting is = cc
never_refused (commands.Work db seed count) pages reply writing lasting is = cc

refusal_carries : (c : Command) (content now : Content) (reply : Reply) → is_lasting c reply ≡ true → HasWritten c content now → Carries c content now reply
refusal_carries c content now reply lasting written = λ is. absurd (never_refused c written.pages reply written.writing lasting
    (subst (λ (b : Bool). IsOverWanted c written.pages b reply) written.wanted
    (subst (λ (r : Result (List (List ℕ)) RecoverFault). IsOfRecovery c r reply) written.recovers is)))

pub answers_stay : (words : List (List ℕ)) (old new : Option History) → RecoveredAreHeaded → LegalStandingAreUnbroken → StandForOne
    → LeavesPagesFor words old new → AnswersStay words old new
answers_stay words None new headed law one leaves = tt
answers_stay words (Some h) new headed law one leaves = record {
  made = leaves.made;
  adds = leaves.adds;
  stays = λ c asked. command_stays c (λ cut is. (leaves.stops cut is).asked c asked);
  rows = λ c asked db table cut is reply.
      file_stays (commands.Rows db table) cut is reply (rows_by c (present h) (after (present h) cut) db table reply headed law one ((leaves.stops cut is).asked c asked));
}
  where
    file_stays : (c : Command) (cut : List Operation) → IsCut leaves.made cut → (reply : Reply) → Carries c (present h) (after (present h) cut) reply
        → IsOfFile c (present h) (file_of (present h) files.Database) reply → IsOfFile c (after (present h) cut) (file_of (after (present h) cut) files.Database) reply
    file_stays c cut is reply carries =
        carried c (present h) (after (present h) cut) reply carries (after_there cut (present h)) (cut_absent leaves.made cut (present h) leaves.covered is)

    writing_stays : (c : Command) (cut : List Operation) → IsCut leaves.made cut
        → (recovered (after (present h) cut) ≡ recovered (present h)) ⊎ HasWritten c (present h) (after (present h) cut) → (reply : Reply) (lasting : Bool)
        → is_lasting c reply ≡ lasting
        → Whether lasting (IsOfFile c (present h) (file_of (present h) files.Database) reply → IsOfFile c (after (present h) cut) (file_of (after (present h) cut) files.Database) reply) (Unit {0})
    writing_stays c cut is either reply false lasting = tt
    writing_stays c cut is either reply true lasting = file_stays c cut is reply (⊎_elim
        (λ (same : recovered (after (present h) cut) ≡ recovered (present h)). same_carries c (present h) (after (present h) cut) reply same)
        (λ (written : HasWritten c (present h) (after (present h) cut)). refusal_carries c (present h) (after (present h) cut) reply lasting written)
        either)

    command_stays : (c : Command) → ((cut : List Operation) → IsCut leaves.made cut → AreOldOrNew c (present h) (after (present h) cut)) → Stays c (present h) leaves.made
    command_stays (commands.Rows db table) stops = λ cut is reply.
        file_stays (commands.Rows db table) cut is reply (same_carries (commands.Rows db table) (present h) (after (present h) cut) reply (stops cut is))
    command_stays (commands.Check db) stops = λ cut is reply.
        file_stays (commands.Check db) cut is reply (same_carries (commands.Check db) (present h) (after (present h) cut) reply (stops cut is))
    command_stays (commands.Prepare db lists) stops = λ cut is reply. writing_stays (commands.Prepare db lists) cut is (stops cut is) reply (is_lasting (commands.Prepare db lists) reply) refl
    command_stays (commands.Release db) stops = λ cut is reply. writing_stays (commands.Release db) cut is (stops cut is) reply (is_lasting (commands.Release db) reply) refl
    command_stays (commands.Run db scripts workers retries slots) stops = λ cut is reply same. same
    command_stays (commands.Work db seed count) stops = λ cut is reply same. same
