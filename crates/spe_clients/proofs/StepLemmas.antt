-- One transaction more has ended.
use Rattle.std.proofs.Common.{◌≡◌, ◌∙◌, ◌⊎◌, ◌+◌, ◌-◌, ◌≤◌, ℕ, zero, suc, inl, inr, List, [], ◌∷◌, ◌++◌, length, take, Some, refl, sym, ap, subst, arith, get_or}
use Rattle.std.specs.Prelude.{All, slice_get, slice_index_or}
use Rattle.std.specs.List.{Contains}
use Rattle.std.proofs.Math.Seq.{take-append_seam, take-length}
use Rattle.std.proofs.lemmas.List.{append-nil, append_assoc, length-append, map-append, take-append-le}
use Rattle.std.proofs.lemmas.List.Elements.{All-map, All-push, All-weaker, Contains-append_left, Contains-push}
use Rattle.std.proofs.lemmas.List.Quantifiers.{all_pairs_push}
use Rattle.spe_model.specs.declared.commit.Commit as model
use Rattle.spe_model.specs.declared.reply.Reply.{Reply}
use Rattle.spe_model.specs.declared.transaction.End.{End}
use Rattle.spe_model.specs.declared.transaction.Tx.{Tx}
use Rattle.spe_model.specs.declared.transcript.Outcome.{Outcome}
use Rattle.spe_model.specs.declared.transcript.Outcome.TheVariants.{Commit, Rollback, ReadOnly, Busy, Full, Fault, Memory}
use Rattle.spe_model.specs.Database.{Database}
use Rattle.spe_model.specs.Meaning.{replies_of, result_of}
use Rattle.spe_store.specs.declared.log.Log.{Log}
use Rattle.spe_store.specs.declared.session.SessionSeat.{SessionSeat}
use Rattle.spe_store.specs.Event.{entries_in}
use Rattle.spe_store.specs.Opened.{Opened}
use Rattle.spe_store.specs.Served.{Entry, database_after, rows_from}
use Rattle.spe_store.specs.Store.{Store}
use Rattle.spe_session.specs.Transaction.{AreFront, AreRight, EndsAs, Enters, EntersBy, HasReason, IsTold, StaysStopped, WhereWasServed, number_of}
use Rattle.spe_clients.specs.Ended.{Answer, Ended, IsLater, IsStoppedAt, NumbersRise, StayStopped}
use Rattle.spe_clients.specs.Plain.{IsWell, commits_after, left_of, plain_outcome, plain_run}
use Rattle.spe_clients.specs.Serial.{AreReplies, IsListed}
use Rattle.spe_clients.specs.SoFar.{ArePlain, Goes, Holds, IsEntryOf, PlainSoFar, RepliesSoFar, RightOn, Steps, after_entries, answers_of, bodies_of, outcomes_in}
use Rattle.spe_clients.proofs.EntryLemmas.{database_push, row_of, rows_append}
use Rattle.spe_clients.proofs.ListLemmas.{All-front, All-last, get_push, was_any, was_both}

-- the list of commits as it was, and maybe more
abbrev Grows : (before after : List Entry) → Type 0
Grows before after = (more : List Entry) × (after ≡ before ++ more)

same_grows : (before after : List Entry) → after ≡ before → Grows before after
same_grows before after same = ([], same ∙ sym (append-nil before))

grows : (before after : List Entry) (client tx : ℕ) (body : Tx) (replies : List Reply) (outcome : Outcome) → EntersBy before after client tx body replies outcome → Grows before after
grows before after client tx body replies (Commit number) enters = (enters.0.entry ∷ [], enters.0.entries)
grows before after client tx body replies (Rollback number) enters = same_grows before after enters
grows before after client tx body replies (ReadOnly number) enters = same_grows before after enters
grows before after client tx body replies (Busy number page word) enters = same_grows before after enters
grows before after client tx body replies (Full number pages) enters = same_grows before after enters
grows before after client tx body replies (Fault number cause) enters = same_grows before after enters
grows before after client tx body replies (Memory number) enters = same_grows before after enters

grown_length : (before after : List Entry) → Grows before after → length before ≤ length after
grown_length before after g = omega (arith, ap length g.1, length-append before g.0)

-- a commit adds one entry, of its transaction
record Adds (before after : List Entry) (e : Ended) (number : ℕ) : Type 0 where
  entry : Entry
  entries : after ≡ before ++ entry ∷ []
  client : entry.log.client ≡ e.client
  tx : entry.log.tx ≡ e.tx
  body : entry.log.body ≡ e.body
  number_is : number ≡ length before + 1

adds : (before after : List Entry) (e : Ended) (number : ℕ) → EntersBy before after e.client e.tx e.body e.replies e.outcome → e.outcome ≡ Commit number → Adds before after e number
adds before after e number enters is =
    let h = subst (EntersBy before after e.client e.tx e.body e.replies) is enters in
    record {
      entry = h.0.entry;
      entries = h.0.entries;
      client = ap (λ (l : Log). l.client) h.0.log;
      tx = ap (λ (l : Log). l.tx) h.0.log;
      body = ap (λ (l : Log). l.body) h.0.log;
      number_is = h.1 ∙ ap length h.0.entries ∙ length-append before (h.0.entry ∷ []);
    }

-- it is a commit, or leaves the list
either : (before after : List Entry) (client tx : ℕ) (body : Tx) (replies : List Reply) (outcome : Outcome) → EntersBy before after client tx body replies outcome
    → ((number : ℕ) × (outcome ≡ Commit number)) ⊎ (after ≡ before)
either before after client tx body replies (Commit number) enters = inl (number, refl)
either before after client tx body replies (Rollback number) enters = inr enters
either before after client tx body replies (ReadOnly number) enters = inr enters
either before after client tx body replies (Busy number page word) enters = inr enters
either before after client tx body replies (Full number pages) enters = inr enters
either before after client tx body replies (Fault number cause) enters = inr enters
either before after client tx body replies (Memory number) enters = inr enters

-- what is listed stays listed
listed_grows : (before after : List Entry) (e : Ended) → Grows before after → IsListed (rows_from 1 before) e → IsListed (rows_from 1 after) e
listed_grows before after e g listed number is =
    let h = listed number is in
    let row : model.Commit = record { client = e.client; tx = e.tx; number = number; ops = h.0 } in (
      h.0,
      subst (λ (es : List Entry). Contains (rows_from 1 es) row) (sym g.1)
          (subst (λ (rows : List model.Commit). Contains rows row) (sym (rows_append 1 before g.0)) (Contains-append_left (rows_from 1 before) _ row h.1)),
    )

abbrev the_row : (client tx number ops : ℕ) → model.Commit
the_row client tx number ops = record { client = client; tx = tx; number = number; ops = ops }

-- and a commit is listed
listed_now : (before after : List Entry) (e : Ended) → EntersBy before after e.client e.tx e.body e.replies e.outcome → IsListed (rows_from 1 after) e
listed_now before after e enters number is =
    let a = adds before after e number enters is in
    let row : model.Commit = row_of (1 + length before) a.entry in
    let there : Contains (rows_from 1 before ++ row ∷ []) row = Contains-push (rows_from 1 before) row in
    let all : Contains (rows_from 1 after) row =
    subst (λ (es : List Entry). Contains (rows_from 1 es) row) (sym a.entries) (subst (λ (rows : List model.Commit). Contains rows row) (sym (rows_append 1 before (a.entry ∷ []))) there) in
    let same : row ≡ the_row e.client e.tx number a.entry.ops =
    ap (λ (x : ℕ). the_row x a.entry.log.tx (1 + length before) a.entry.ops) a.client ∙ ap (λ (x : ℕ). the_row e.client x (1 + length before) a.entry.ops) a.tx
    ∙ ap (λ (x : ℕ). the_row e.client e.tx x a.entry.ops) (omega (arith, a.number_is)) in
    (a.entry.ops, subst (Contains (rows_from 1 after)) same all)

-- each entry is of a transaction that has ended
entry_grows : (ended : List Ended) (e : Ended) (entry : Entry) (number : ℕ) → IsEntryOf ended entry number → IsEntryOf (ended ++ e ∷ []) entry number
entry_grows ended e entry number is = record { by = is.by; among = Contains-append_left ended (e ∷ []) is.by is.among; client = is.client; tx = is.tx; body = is.body; outcome = is.outcome }

made_more : (before after : List Entry) (ended : List Ended) (e : Ended) → EntersBy before after e.client e.tx e.body e.replies e.outcome
    → ((place : ℕ) (entry : Entry) → slice_get before place ≡ Some entry → IsEntryOf ended entry (place + 1))
    → (place : ℕ) (entry : Entry) → slice_get after place ≡ Some entry → IsEntryOf (ended ++ e ∷ []) entry (place + 1)
made_more before after ended e enters made place entry there =
    elim (either before after e.client e.tx e.body e.replies e.outcome enters) [
      | inl c ↦ committed (adds before after e c.0 enters c.1) c.1
      | inr same ↦ entry_grows ended e entry (place + 1) (made place entry (subst (λ (es : List Entry). slice_get es place ≡ Some entry) same there))
    ]
  where
    committed : {number : ℕ} → Adds before after e number → e.outcome ≡ Commit number → IsEntryOf (ended ++ e ∷ []) entry (place + 1)
    committed {number = number} a is =
        elim (get_push before a.entry entry place (subst (λ (es : List Entry). slice_get es place ≡ Some entry) a.entries there)) [
          | inl old ↦ entry_grows ended e entry (place + 1) (made place entry old)
          | inr new ↦ record {
            by = e;
            among = Contains-push ended e;
            client = sym a.client ∙ ap (λ (x : Entry). x.log.client) new.1;
            tx = sym a.tx ∙ ap (λ (x : Entry). x.log.tx) new.1;
            body = sym a.body ∙ ap (λ (x : Entry). x.log.body) new.1;
            outcome = is ∙ ap (λ (n : ℕ). Commit n) (a.number_is ∙ ap (λ (n : ℕ). n + 1) (sym new.0));
          }
        ]

-- the outcomes with one more
outcomes_push : (ended : List Ended) (e : Ended) → outcomes_in (ended ++ e ∷ []) ≡ outcomes_in ended ++ e.outcome ∷ []
outcomes_push ended e = map-append (λ (x : Ended). x.outcome) ended (e ∷ [])

-- an outcome is later than those before it
later_now : (before after : List Entry) (e : Ended) (o : Outcome) → EntersBy before after e.client e.tx e.body e.replies e.outcome → number_of e.outcome ≡ length after
    → number_of o ≤ length before → IsLater o e.outcome
later_now before after e o enters number low = record {
  low = omega (arith, grown_length before after (grows before after e.client e.tx e.body e.replies e.outcome enters));
  commit = λ n is. let a = adds before after e n enters is in omega (arith, a.number_is);
}

-- replies stay right as the list grows
take_grown : (before more : List Entry) (db : Database) (n : ℕ) → n ≤ length before → after_entries db (before ++ more) n ≡ after_entries db before n
take_grown before more db n low = ap (database_after db) (take-append-le n before more low)

replies_grow : (before more : List Entry) (db : Database) (body : Tx) (replies : List Reply) (outcome : Outcome) → number_of outcome ≤ length before
    → AreReplies (after_entries db before) body replies outcome → AreReplies (after_entries db (before ++ more)) body replies outcome
replies_grow before more db body replies (Commit number) low right =
    subst (λ (d : Database). replies ≡ replies_of d body) (sym (take_grown before more db (number - 1) (omega arith))) right
replies_grow before more db body replies (Rollback number) low right =
    subst (λ (d : Database). replies ≡ replies_of d body) (sym (take_grown before more db number low)) right
replies_grow before more db body replies (ReadOnly number) low right = right
replies_grow before more db body replies (Busy number page word) low right = right
replies_grow before more db body replies (Full number pages) low right =
    (subst (λ (d : Database). AreFront d body replies) (sym (take_grown before more db number low)) right.0, right.1)
replies_grow before more db body replies (Fault number cause) low right =
    subst (λ (d : Database). AreFront d body replies) (sym (take_grown before more db number low)) right
replies_grow before more db body replies (Memory number) low right =
    subst (λ (d : Database). AreFront d body replies) (sym (take_grown before more db number low)) right

-- and those of the transaction that has ended are
replies_now : (before after : List Entry) (db : Database) (client tx : ℕ) (body : Tx) (replies : List Reply) (outcome : Outcome)
    → EntersBy before after client tx body replies outcome → AreRight before db body replies outcome → AreReplies (after_entries db after) body replies outcome
replies_now before after db client tx body replies (Commit number) enters right =
    let low : number - 1 ≡ length before = omega (arith, enters.1, ap length enters.0.entries, length-append before (enters.0.entry ∷ [])) in
    let front : take (number - 1) after ≡ before =
    ap (λ (n : ℕ). take n after) low ∙ ap (take (length before)) enters.0.entries ∙ take-append_seam before (enters.0.entry ∷ []) in
    subst (λ (es : List Entry). replies ≡ replies_of (database_after db es) body) (sym front) right
replies_now before after db client tx body replies (Rollback number) enters right = subst (λ (es : List Entry). replies ≡ replies_of (after_entries db es number) body) (sym enters) right
replies_now before after db client tx body replies (ReadOnly number) enters right = right
replies_now before after db client tx body replies (Busy number page word) enters right = right
replies_now before after db client tx body replies (Full number pages) enters right =
    (subst (λ (es : List Entry). AreFront (after_entries db es number) body replies) (sym enters) right.0, right.1)
replies_now before after db client tx body replies (Fault number cause) enters right = subst (λ (es : List Entry). AreFront (after_entries db es number) body replies) (sym enters) right
replies_now before after db client tx body replies (Memory number) enters right = subst (λ (es : List Entry). AreFront (after_entries db es number) body replies) (sym enters) right

replies_more : (before after : List Entry) (ended : List Ended) (e : Ended) (db : Database) → EntersBy before after e.client e.tx e.body e.replies e.outcome
    → All (λ (x : Ended). number_of x.outcome ≤ length before) ended
    → All (λ (x : Ended). AreReplies (after_entries db before) x.body x.replies x.outcome) ended → AreRight before db e.body e.replies e.outcome
    → All (λ (x : Ended). AreReplies (after_entries db after) x.body x.replies x.outcome) (ended ++ e ∷ [])
replies_more before after ended e db enters low old right =
    let g = grows before after e.client e.tx e.body e.replies e.outcome enters in
    All-push (λ (x : Ended). AreReplies (after_entries db after) x.body x.replies x.outcome) ended e
    (λ k d within. let x = slice_index_or ended k d in
    subst (λ (es : List Entry). AreReplies (after_entries db es) x.body x.replies x.outcome) (sym g.1) (replies_grow before g.0 db x.body x.replies x.outcome (low k d within) (old k d within)))
    (replies_now before after db e.client e.tx e.body e.replies e.outcome enters right)

abbrev answer_is : Outcome → List Reply → Answer
answer_is outcome replies = (outcome, replies)

-- What a transaction that ended as it asked adds to a plain run.
record AddsPlain (db : Database) (before after : List Entry) (body : Tx) (replies : List Reply) (outcome : Outcome) : Type 0 where
  answer : answer_is (plain_outcome (length before) body.end) (replies_of (database_after db before) body) ≡ answer_is outcome replies
  number : commits_after (length before) body.end ≡ length after
  left : left_of (database_after db before) body body.end ≡ database_after db after

plain_now : (before after : List Entry) (db : Database) (client tx : ℕ) (body : Tx) (replies : List Reply) (outcome : Outcome) → EntersBy before after client tx body replies outcome
    → EndsAs body outcome → AreRight before db body replies outcome → number_of outcome ≡ length after → IsWell outcome → AddsPlain db before after body replies outcome
plain_now before after db client tx body replies (Commit number) enters asks right is well =
    let more : length after ≡ length before + 1 = ap length enters.0.entries ∙ length-append before (enters.0.entry ∷ []) in
    record {
      answer = ap (λ (e : End). answer_is (plain_outcome (length before) e) (replies_of (database_after db before) body)) asks
          ∙ ap (λ (n : ℕ). answer_is (Commit n) (replies_of (database_after db before) body)) (sym (is ∙ more)) ∙ ap (answer_is (Commit number)) (sym right);
      number = ap (commits_after (length before)) asks ∙ sym more;
      left = ap (left_of (database_after db before) body) asks ∙ ap (λ (l : Log). result_of (database_after db before) l.body) (sym enters.0.log)
          ∙ sym (database_push before enters.0.entry db) ∙ ap (database_after db) (sym enters.0.entries);
    }
plain_now before after db client tx body replies (Rollback number) enters asks right is well =
    let same : number ≡ length before = is ∙ ap length enters in
    let all : take number before ≡ before = ap (λ (n : ℕ). take n before) same ∙ take-length before in
    record {
      answer = ap (λ (e : End). answer_is (plain_outcome (length before) e) (replies_of (database_after db before) body)) asks
          ∙ ap (λ (n : ℕ). answer_is (Rollback n) (replies_of (database_after db before) body)) (sym same)
          ∙ ap (answer_is (Rollback number)) (sym (right ∙ ap (λ (es : List Entry). replies_of (database_after db es) body) all));
      number = ap (commits_after (length before)) asks ∙ ap length (sym enters);
      left = ap (left_of (database_after db before) body) asks ∙ ap (database_after db) (sym enters);
    }
plain_now before after db client tx body replies (ReadOnly number) enters asks right is well = absurd well
plain_now before after db client tx body replies (Busy number page word) enters asks right is well = absurd well
plain_now before after db client tx body replies (Full number pages) enters asks right is well = absurd well
plain_now before after db client tx body replies (Fault number cause) enters asks right is well = absurd well
plain_now before after db client tx body replies (Memory number) enters asks right is well = absurd well

plain_more : (before after : List Entry) (ended : List Ended) (e : Ended) (db : Database) → AddsPlain db before after e.body e.replies e.outcome
    → ArePlain db before ended → ArePlain db after (ended ++ e ∷ [])
plain_more before after ended e db adds plain = record {
  run = λ more.
      ap (plain_run 0 db) (ap (λ (ts : List Tx). ts ++ more) (map-append (λ (x : Ended). x.body) ended (e ∷ [])) ∙ append_assoc (bodies_of ended) (e.body ∷ []) more)
      ∙ plain.run (e.body ∷ more)
      ∙ ap (λ (a : Answer). answers_of ended ++ (a ∷ plain_run (commits_after (length before) e.body.end) (left_of (database_after db before) e.body e.body.end) more)) adds.answer
      ∙ ap (λ (n : ℕ). answers_of ended ++ (answer_is e.outcome e.replies ∷ plain_run n (left_of (database_after db before) e.body e.body.end) more)) adds.number
      ∙ ap (λ (d : Database). answers_of ended ++ (answer_is e.outcome e.replies ∷ plain_run (length after) d more)) adds.left
      ∙ sym (append_assoc (answers_of ended) (answer_is e.outcome e.replies ∷ []) (plain_run (length after) (database_after db after) more))
      ∙ ap (λ (ys : List Answer). ys ++ plain_run (length after) (database_after db after) more) (sym (map-append (λ (x : Ended). answer_is x.outcome x.replies) ended (e ∷ [])));
}

plain_so_far : (before after : List Entry) (ended : List Ended) (e : Ended) (db : Database) → EntersBy before after e.client e.tx e.body e.replies e.outcome → EndsAs e.body e.outcome
    → number_of e.outcome ≡ length after → AreRight before db e.body e.replies e.outcome → PlainSoFar before ended db → PlainSoFar after (ended ++ e ∷ []) db
plain_so_far before after ended e db enters asks is right plain well =
    let split : All IsWell (outcomes_in ended ++ e.outcome ∷ []) = subst (All IsWell) (outcomes_push ended e) well in
    plain_more before after ended e db
    (plain_now before after db e.client e.tx e.body e.replies e.outcome enters asks right is (All-last IsWell (outcomes_in ended) e.outcome split))
    (plain (All-front IsWell (outcomes_in ended) (e.outcome ∷ []) split))

-- nothing has ended yet
pub holds_none : (opened : Opened) (s : Store) → entries_in s.events ≡ [] → Holds opened [] s
holds_none opened s none = record {
  ends = λ k d low. absurd (omega arith);
  listed = λ k d low. absurd (omega arith);
  made = λ place entry there. absurd (no_entry place entry (subst (λ (es : List Entry). slice_get es place ≡ Some entry) none there));
  within = λ k d low. absurd (omega arith);
  rising = λ i j d below low. absurd (omega arith);
  lasting = λ i j d below low. absurd (omega arith);
  named = λ k d low. absurd (omega arith);
  replies = was_any opened (RepliesSoFar (entries_in s.events) []) (λ db k d low. absurd (omega arith));
  plain = was_any opened (PlainSoFar (entries_in s.events) []) (λ db well. subst (λ (es : List Entry). ArePlain db es []) (sym none) (record { run = λ more. refl }));
}
  where
    no_entry : (place : ℕ) (entry : Entry) → slice_get {X = Entry} [] place ≡ Some entry → ⊥
    no_entry zero entry is = cc
    no_entry (suc place) entry is = cc

-- a store that has stopped stays so
still_named : (old new : Store) (e : Ended) (o : Outcome) → StaysStopped old new e.outcome → ((op : ℕ) → IsStoppedAt op o → old.desk.stopped ≡ Some op)
    → (op : ℕ) → IsStoppedAt op o → new.desk.stopped ≡ Some op
still_named old new e o stays named op is =
    let was = named op is in
    ap (λ (s : Store). s.desk.stopped) (stays op was).0 ∙ was

now_named : (new : Store) (e : Ended) → HasReason new.desk e.outcome → (op : ℕ) → IsStoppedAt op e.outcome → new.desk.stopped ≡ Some op
now_named new e reason op is = subst (HasReason new.desk) is.1 reason

holds_more : (opened : Opened) (old new : Store) (ended : List Ended) (e : Ended) → Steps opened old new e → Holds opened ended old → Holds opened (ended ++ e ∷ []) new
holds_more opened old new ended e steps holds =
    let before = entries_in old.events in
    let after = entries_in new.events in
    let g = grows before after e.client e.tx e.body e.replies e.outcome steps.enters in
    let more = grown_length before after g in
    record {
      ends = All-push (λ (x : Ended). EndsAs x.body x.outcome) ended e holds.ends steps.ends;
      listed = All-push (IsListed (rows_from 1 after)) ended e (All-weaker (IsListed (rows_from 1 before)) (IsListed (rows_from 1 after)) (λ x. listed_grows before after x g) ended holds.listed)
          (listed_now before after e steps.enters);
      made = made_more before after ended e steps.enters holds.made;
      within = All-push (λ (x : Ended). number_of x.outcome ≤ length after) ended e
          (All-weaker (λ (x : Ended). number_of x.outcome ≤ length before) (λ (x : Ended). number_of x.outcome ≤ length after) (λ x low. omega (arith, more)) ended holds.within)
          (omega (arith, steps.number));
      rising = subst NumbersRise (sym (outcomes_push ended e)) (all_pairs_push IsLater (outcomes_in ended) e.outcome holds.rising
          (λ k d low. later_now before after e (get_or (outcomes_in ended) k d) steps.enters steps.number
          (All-map (λ (o : Outcome). number_of o ≤ length before) (λ (x : Ended). x.outcome) ended holds.within k d low)));
      lasting = subst StayStopped (sym (outcomes_push ended e)) (all_pairs_push (λ (before after : Outcome). (op : ℕ) → IsStoppedAt op before → IsStoppedAt op after) (outcomes_in ended) e.outcome holds.lasting
          (λ k d low op is. (steps.stays op (holds.named k d low op is)).1));
      named = subst (All (λ (o : Outcome). (op : ℕ) → IsStoppedAt op o → new.desk.stopped ≡ Some op)) (sym (outcomes_push ended e))
          (All-push (λ (o : Outcome). (op : ℕ) → IsStoppedAt op o → new.desk.stopped ≡ Some op) (outcomes_in ended) e.outcome
          (All-weaker (λ (o : Outcome). (op : ℕ) → IsStoppedAt op o → old.desk.stopped ≡ Some op) (λ (o : Outcome). (op : ℕ) → IsStoppedAt op o → new.desk.stopped ≡ Some op)
          (λ o. still_named old new e o steps.stays) (outcomes_in ended) holds.named)
          (now_named new e steps.reason));
      replies = was_both opened (RepliesSoFar before ended) (RightOn before e) (RepliesSoFar after (ended ++ e ∷ [])) (λ db. replies_more before after ended e db steps.enters holds.within) holds.replies steps.right;
      plain = was_both opened (RightOn before e) (PlainSoFar before ended) (PlainSoFar after (ended ++ e ∷ [])) (λ db right plain. plain_so_far before after ended e db steps.enters steps.ends steps.number right plain) steps.right holds.plain;
    }

-- a transaction whose session was told of all commits has the number of all that there are then
number_is : (before after : List Entry) (client tx : ℕ) (body : Tx) (replies : List Reply) (outcome : Outcome) → EntersBy before after client tx body replies outcome
    → length before ≤ number_of outcome → number_of outcome ≤ length after → number_of outcome ≡ length after
number_is before after client tx body replies (Commit number) enters low high = enters.1
number_is before after client tx body replies (Rollback number) enters low high = omega (arith, ap length enters)
number_is before after client tx body replies (ReadOnly number) enters low high = omega (arith, ap length enters)
number_is before after client tx body replies (Busy number page word) enters low high = omega (arith, ap length enters)
number_is before after client tx body replies (Full number pages) enters low high = omega (arith, ap length enters)
number_is before after client tx body replies (Fault number cause) enters low high = omega (arith, ap length enters)
number_is before after client tx body replies (Memory number) enters low high = omega (arith, ap length enters)

pub goes_one : (opened : Opened) (old new : Store) (e : Ended) (before now : SessionSeat) → Enters old new e.client e.tx e.body e.replies e.outcome → EndsAs e.body e.outcome
    → WhereWasServed opened (RightOn (entries_in old.events) e) → HasReason new.desk e.outcome → IsTold old new before now e.outcome → StaysStopped old new e.outcome
    → before.told ≡ length (entries_in old.events) → Goes opened old new (e ∷ [])
goes_one opened old new e before now enters asks right reason told stays all = λ ended. holds_more opened old new ended e (record {
  enters = enters;
  ends = asks;
  right = right;
  reason = reason;
  number = number_is (entries_in old.events) (entries_in new.events) e.client e.tx e.body e.replies e.outcome enters (omega (arith, told.low, all)) told.high;
  stays = stays;
})
