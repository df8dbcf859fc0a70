-- How a run of the program ends that serves clients.
use Rattle.std.proofs.Common.{◌≡◌, ◌⊎◌, ◌==◌, ℕ, ◌≤◌, ◌∙◌, Bool, true, false, List, [], Option, Some, None, Result, Ok, Err, refl, sym, ap, subst, arith, inl, inr}
use Rattle.std.specs.Prelude.{IfOk, length}
use Rattle.std.specs.declared.vec.Vec.{Vec}
use Rattle.std.specs.declared.alloc.Global.{Global}
use Rattle.std.specs.declared.alloc.AllocError.{AllocError}
use Rattle.spe_model.specs.declared.commit.Commit.{Commit}
use Rattle.spe_model.specs.declared.recovery.RecoverFault.{RecoverFault}
use Rattle.spe_model.specs.declared.transaction.Tx.{Tx}
use Rattle.spe_model.specs.Trace.{History}
use Rattle.spe_disk.specs.declared.disk.Disk.{Ghosts as DiskGhosts}
use Rattle.spe_disk.specs.declared.scripts.Scripts.{Ghosts as ScriptGhosts}
use Rattle.spe_disk.specs.declared.sink.Sink.{Ghosts as SinkGhosts}
use Rattle.spe_clients.specs.Ended.{Answer}
use Rattle.spe_words.specs.declared.command.Command.{Command}
use Rattle.spe_words.specs.declared.command.Command.TheVariants as commands
use Rattle.spe_words.specs.declared.command.WordsFault.{WordsFault}
use Rattle.spe_words.specs.declared.command.WordsFault.TheVariants as words_faults
use Rattle.spe_words.specs.Grammar.{AskFor}
use Rattle.spe_serve.specs.declared.outcome.Outcome.{Outcome}
use Rattle.spe_serve.specs.declared.outcome.Outcome.TheVariants as outcomes
use Rattle.spe_serve.specs.declared.reply.Reply.{Reply}
use Rattle.spe_serve.specs.declared.reply.Reply.TheVariants as replies
use Rattle.spe_serve.specs.declared.run.Run.{Run}
use Rattle.spe_serve.specs.declared.run.Run.TheVariants as runs
use Rattle.spe_serve.specs.declared.scripts.Unasked.{Unasked}
use Rattle.spe_serve.specs.declared.scripts.Unasked.TheVariants as whys
use Rattle.spe_serve.specs.Answer.{is_built}
use Rattle.spe_serve.specs.Asked.{IfTexts}
use Rattle.spe_serve.specs.Ending.{EndsOnFailure, IsOutcome, Prints, PrintsMade, PrintsOutcome, outcome_text}
use Rattle.spe_serve.specs.Made.{IsMadeFor}
use Rattle.spe_serve.specs.Reply.{AskForNone, status_of}
use Rattle.spe_serve.specs.Run.{IsAboutRun, IsRun, has_outcome, is_damage, is_disk_fault, is_short, run_status, run_text, served_status, worst}
use Rattle.spe_serve.specs.RunEnding.{EndsRun, EndsRunFor, IsReadAs, IsServing, PrintsRun, ServeNone, serves, unread_outcome}
use Rattle.spe_serve.proofs.MadeLemmas.{never_read}

apart : (a b : ℕ) → (a == b) ≡ false → a ≡ b → ⊥
apart a b differ e = let same : (a == b) ≡ true = grind arith in let both = sym same ∙ differ in cc

abbrev script_names : Command → List (List ℕ)
script_names (commands.Run db names workers retries slots) = names
script_names c = []

-- the one command that the words ask for
asked_ok : (words : List (List ℕ)) (asked : Result Command WordsFault) (c : Command) → IsReadAs words asked → asked ≡ Ok c → AskFor words c × ((d : Command) → AskFor words d → d ≡ c)
asked_ok words asked c read e = (rw e at read.command, rw e at read.no_other)

module _ (words : List (List ℕ)) (asked : Result Command WordsFault) (found : List ℕ × List (List ℕ)) (read : IsReadAs words asked) (serving : IsServing asked (Some found)) where
  abbrev command : Command
  command = commands.Run found.0 found.1 serving.0 serving.1 serving.2

  its : AskFor words command × ((d : Command) → AskFor words d → d ≡ command)
  its = asked_ok words asked command read serving.3

  pub few_names : length found.1 ≤ 64
  few_names = its.0.asked.2

  pub asks_some : AskForNone words → ⊥
  asks_some none = none command its.0

  pub serves_some : ServeNone words → ⊥
  serves_some none = let no : serves command ≡ false = none command its.0 in let both : true ≡ false = no in cc

  pub serves_no_other : (c : Command) → AskFor words c → serves c ≡ false → ⊥
  serves_no_other c asks none = let same : c ≡ command = its.1 c asks in let served : serves c ≡ true = ap serves same in let both = sym served ∙ none in cc

  pub names_are : (db : List ℕ) (names : List (List ℕ)) (workers retries slots : ℕ) → AskFor words (commands.Run db names workers retries slots) → found.1 ≡ names
  names_are db names workers retries slots asks = sym (ap script_names (its.1 (commands.Run db names workers retries slots) asks))

-- what was read is no command that serves clients
unserved_words : (words : List (List ℕ)) (asked : Result Command WordsFault) (c : Command) → IsReadAs words asked → IfOk asked (λ d. serves d ≡ false) → AskFor words c → serves c ≡ true
    → asked ≡ Err words_faults.Memory
unserved_words words (Ok d) c read none asks served = let same : c ≡ d = read.no_other c asks in let no : serves c ≡ false = ap serves same ∙ none in let both = sym served ∙ no in absurd cc
unserved_words words (Err words_faults.Words) c read none asks served = absurd (read.none refl c asks)
unserved_words words (Err words_faults.Memory) c read none asks served = refl

pub short_run_for : {D C W : Type 0} (d : DiskGhosts D) (s : ScriptGhosts C) (g : SinkGhosts W) (disk now : D) (scripts : C) (out out_now : W) (words : List (List ℕ)) (asked : Result Command WordsFault)
    (order : List Commit) (status : ℕ) → IsReadAs words asked → IfOk asked (λ c. serves c ≡ false) → order ≡ []
    → (asked ≡ Err words_faults.Memory → PrintsRun g out out_now (runs.Unasked whys.Memory) status × (d.told now ≡ d.told disk))
    → EndsRunFor d s g disk now scripts scripts out out_now words order status
short_run_for d s g disk now scripts out out_now words asked order status read none empty short = λ db names workers retries slots asks.
    let c = commands.Run db names workers retries slots in
    let is = short (unserved_words words asked c read none asks refl) in
    record {
      run = runs.Unasked whys.Memory;
      is = record { same = is.1; why_is = free (s.texts scripts) };
      order_is = empty;
      prints = is.0;
      cause = tt;
      counts = refl;
    }
  where
    free : (texts : Option (List ℕ → Option (List ℕ))) → IfTexts texts (λ t. Unit {0})
    free None = tt
    free (Some t) = tt

served_never_one : (all : List (List Answer)) → served_status all ≡ 1 → ⊥
served_never_one all e = go (has_outcome is_disk_fault all) (has_outcome is_damage all) (has_outcome is_short all) e
  where
    go : (a b c : Bool) → worst a b c ≡ 1 → ⊥
    go true b c e = apart 3 1 refl e
    go false true c e = apart 5 1 refl e
    go false false true e = apart 4 1 refl e
    go false false false e = apart 0 1 refl e

about_never_one : (reply : Reply) → IsAboutRun reply → status_of reply ≡ 1 → ⊥
about_never_one replies.NoDatabase about e = apart 2 1 refl e
about_never_one (replies.Refused fault) about e = apart 2 1 refl e
about_never_one (replies.Corrupt page) about e = apart 2 1 refl e
about_never_one replies.Words about e = about
about_never_one replies.NotBuilt about e = about
about_never_one (replies.Sound pages tables rows free) about e = about
about_never_one (replies.Damage page rule) about e = about
about_never_one replies.NoTable about e = about
about_never_one (replies.ClosedTable why) about e = about
about_never_one (replies.Rows rows) about e = about
about_never_one (replies.Released free pages) about e = about
about_never_one (replies.Prepared lists pages) about e = about
about_never_one replies.AlreadyPrepared about e = about
about_never_one (replies.Full pages) about e = about

unasked_never_one : (why : Unasked) → run_status (runs.Unasked why) ≡ 1 → ⊥
unasked_never_one (whys.NoScript client) e = apart 2 1 refl e
unasked_never_one (whys.BadScript client line kind) e = apart 2 1 refl e
unasked_never_one whys.NotBuilt e = apart 2 1 refl e
unasked_never_one whys.Failed e = apart 3 1 refl e
unasked_never_one whys.Memory e = apart 4 1 refl e

run_never_one : (texts : Option (List ℕ → Option (List ℕ))) (names : List (List ℕ)) (old new : Option History) (run : Run) → IsRun texts names old new run → run_status run ≡ 1 → ⊥
run_never_one texts names old new (runs.Unasked why) is e = unasked_never_one why e
run_never_one texts names old new (runs.Refused reply) is e = about_never_one reply is.for e
run_never_one texts names old new runs.DiskFailed is e = apart 3 1 refl e
run_never_one texts names old new runs.NoMemory is e = apart 4 1 refl e
run_never_one texts names old new (runs.Served s) is e = served_never_one s.transcripts e

prints_never_one : {W : Type 0} (g : SinkGhosts W) (before now : W) (text : List ℕ) (ending status : ℕ) → (ending ≡ 1 → ⊥) → Prints g before now text ending status → status ≡ 1 → ⊥
prints_never_one g before now text ending status never (inl (all, is)) e = never (sym is ∙ e)
prints_never_one g before now text ending status never (inr (within, is)) e = apart 3 1 refl (sym is ∙ e)

-- clients that are served never end as words that are no command
pub never_one : {D C W : Type 0} (d : DiskGhosts D) (s : ScriptGhosts C) (g : SinkGhosts W) (disk now : D) (scripts later : C) (out out_now : W) (names : List (List ℕ)) (order : List Commit) (status : ℕ)
    → EndsRun d s g disk now scripts later out out_now names order status → status ≡ 1 → ⊥
never_one d s g disk now scripts later out out_now names order status ends e = go ends.prints
  where
    go : PrintsRun g out out_now ends.run status → ⊥
    go (inl prints) = prints_never_one g out out_now (run_text ends.run) (run_status ends.run) status (run_never_one (s.texts scripts) names (d.told disk) (d.told now) ends.run ends.is) prints e
    go (inr prints) = prints_never_one g out out_now (outcome_text outcomes.NoMemory) 4 status (apart 4 1 refl) prints e

prints_failure : {W : Type 0} (g : SinkGhosts W) (before now : W) (text : List ℕ) (ending status : ℕ) → Prints g before now text ending status → EndsOnFailure g before now status
prints_failure g before now text ending status (inl (all, is)) = inl all.count
prints_failure g before now text ending status (inr (within, is)) = inr (is, within.count)

pub run_on_failure : {W : Type 0} (g : SinkGhosts W) (before now : W) (run : Run) (status : ℕ) → PrintsRun g before now run status → EndsOnFailure g before now status
run_on_failure g before now run status (inl prints) = prints_failure g before now (run_text run) (run_status run) status prints
run_on_failure g before now run status (inr prints) = prints_failure g before now (outcome_text outcomes.NoMemory) 4 status prints

pub short_prints : {W : Type 0} (g : SinkGhosts W) (before now : W) (outcome : Outcome) (status : ℕ) → outcome ≡ outcomes.NoMemory → PrintsOutcome g before now outcome status
    → PrintsRun g before now (runs.Unasked whys.Memory) status
short_prints g before now outcome status is prints = inl (rw is at prints)

-- a command that is built, and looks at a database by itself, serves no client
pub built_serves_none : (c : Command) → is_built c ≡ true → serves c ≡ false
built_serves_none (commands.Rows db table) built = refl
built_serves_none (commands.Check db) built = refl
built_serves_none (commands.Prepare db lists) built = refl
built_serves_none (commands.Release db) built = refl
built_serves_none (commands.Run db scripts workers retries slots) built = absurd cc
built_serves_none (commands.Work db seed count) built = absurd cc

-- a text that was put together was printed, or there was no memory for it
pub run_made : {W : Type 0} (g : SinkGhosts W) (before now : W) (made : Result (Vec ℕ Global) AllocError) (run : Run) (status : ℕ) → IfOk made (λ v. v.items ≡ run_text run)
    → PrintsMade g before now made (run_status run) status → PrintsRun g before now run status
run_made g before now (Ok text) run status is prints = inl (subst (λ (t : List ℕ). Prints g before now t (run_status run) status) is prints)
run_made g before now (Err e) run status is prints = inr prints

-- words that were not read as a command
pub unread_is : (words : List (List ℕ)) (asked : Result Command WordsFault) (told : Option History) (rose : Type 0) (fault : WordsFault) (outcome : Outcome) → IsReadAs words asked → asked ≡ Err fault
    → outcome ≡ unread_outcome fault → IsOutcome words told rose outcome
unread_is words asked told rose words_faults.Words outcome read is out = subst (IsOutcome words told rose) (sym out) (inl (read.none is, refl))
unread_is words asked told rose words_faults.Memory outcome read is out = subst (IsOutcome words told rose) (sym out) tt

pub unread_made : (words : List (List ℕ)) (asked : Result Command WordsFault) (told : Option History) (fault : WordsFault) (outcome : Outcome) (c : Command) → IsReadAs words asked → asked ≡ Err fault
    → outcome ≡ unread_outcome fault → AskFor words c → IsMadeFor c told told outcome
unread_made words asked told words_faults.Words outcome c read is out asks = absurd (read.none is c asks)
unread_made words asked told words_faults.Memory outcome c read is out asks = subst (IsMadeFor c told told) (sym out) (never_read c told)

one_fault : (a b : WordsFault) (asked : Result Command WordsFault) → asked ≡ Err a → asked ≡ Err b → a ≡ b
one_fault a b asked e f = let both : Err a ≡ Err b = sym e ∙ f in cc

pub unread_short : (asked : Result Command WordsFault) (fault : WordsFault) (outcome : Outcome) → asked ≡ Err fault → outcome ≡ unread_outcome fault → asked ≡ Err words_faults.Memory → outcome ≡ outcomes.NoMemory
unread_short asked fault outcome is out short = out ∙ ap unread_outcome (one_fault fault words_faults.Memory asked is short)
