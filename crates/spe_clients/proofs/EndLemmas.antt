-- What is so of all transactions once they have ended.
use Rattle.std.proofs.Common.{◌≡◌, ◌≢◌, ◌∙◌, ◌⊎◌, ◌+◌, ◌-◌, ◌^◌, ◌<◌, ◌≤◌, ℕ, zero, suc, inl, inr, List, [], ◌∷◌, ◌++◌, length, take, Option, Some, None, refl, sym, ap, subst, arith}
use Rattle.std.specs.Prelude.{All, slice_get, slice_index_or}
use Rattle.std.specs.List.{AllPairs, Contains}
use Rattle.std.proofs.lemmas.List.{append-nil, map-append}
use Rattle.std.proofs.lemmas.List.Elements.{All-cons, All-nil, All-weaker, Contains-append_cases}
use Rattle.spe_model.specs.declared.commit.Commit as model
use Rattle.spe_model.specs.declared.reply.Reply.{Reply}
use Rattle.spe_model.specs.declared.transaction.Tx.{Tx}
use Rattle.spe_model.specs.declared.transcript.Outcome.{Outcome}
use Rattle.spe_model.specs.declared.transcript.Outcome.TheVariants.{Commit, Rollback, ReadOnly, Busy, Full, Fault, Memory}
use Rattle.spe_model.specs.Faults.{Rose}
use Rattle.spe_model.specs.Database.{Database}
use Rattle.spe_model.specs.Meaning.{replies_of}
use Rattle.spe_model.specs.Trace.{History}
use Rattle.spe_transactions.specs.Commits.{commits_within, pages_after}
use Rattle.spe_store.specs.Desk.{Counts}
use Rattle.spe_store.specs.Call.{CutsAreLeft, CutsAreServed}
use Rattle.spe_store.specs.Event.{broken_in, entries_in}
use Rattle.spe_store.specs.Opened.{Opened}
use Rattle.spe_store.specs.Served.{AreServed, Entry, commits_of, rows_from}
use Rattle.spe_store.specs.Store.{IfTold, IsOf, NeverFall, Store}
use Rattle.spe_session.specs.Transaction.{AreFront, WhereWasServed, number_of}
use Rattle.spe_clients.specs.Cuts.{CutsAreExact, CutsAreSerial, CutsServe, ServeOneMore, ops_of}
use Rattle.spe_clients.specs.Ended.{Answer, Ended, IsLater, IsStoppedAt, NumbersRise, StayStopped, all_ended, all_outcomes, clients_from, ended_from, joined, lengths_of, of_turn, of_tx, outcomes_of}
use Rattle.spe_clients.specs.Plain.{IsPlain, IsWell, plain_run}
use Rattle.spe_clients.specs.Report.{AreCaused, IsLeft, NoneFollows}
use Rattle.spe_clients.specs.Serial.{AreOrdered, AreReplies, IsCommitOf, IsSerial, committed, database_at, database_after}
use Rattle.spe_clients.specs.SoFar.{Holds, PlainSoFar, RepliesSoFar, after_entries, answers_of, bodies_of, outcomes_in}
use Rattle.spe_clients.proofs.EntryLemmas.{committed_rows, database_by_txs, ops_in, row_at, rows_length, rows_numbered, rows_ops, txs_of, within_same}
use Rattle.spe_clients.proofs.ListLemmas.{pairs_left, pairs_right, was_then}

-- an element of a list is its first, or of the rest
contains_cons : {X : Type 0} (x : X) (xs : List X) (y : X) → Contains (x ∷ xs) y → (x ≡ y) ⊎ Contains xs y
contains_cons x xs y c = go c.0 c.1 c.2
  where
    go : (k : ℕ) → k < length (x ∷ xs) → slice_index_or (x ∷ xs) k y ≡ y → (x ≡ y) ⊎ Contains xs y
    go zero low is = inl is
    go (suc k) low is = inr (k, omega arith, is)

contains_none : {X : Type 0} (y : X) → Contains [] y → ⊥
contains_none y c = omega (arith, c.1)

-- where a transaction stands among those of its client, the first of them numbered so
record IsIn (first : ℕ) (txs : List Tx) (answers : List Answer) (e : Ended) : Type 0 where
  place : ℕ
  tx : e.tx ≡ first + place
  asked : slice_get txs place ≡ Some e.body
  answered : slice_get answers place ≡ Some (e.outcome, e.replies)

in_client : (client first : ℕ) (txs : List Tx) (answers : List Answer) (e : Ended) → Contains (ended_from client first txs answers) e → (e.client ≡ client) × IsIn first txs answers e
in_client client first [] answers e c = absurd (contains_none e c)
in_client client first (t ∷ ts) [] e c = absurd (contains_none e c)
in_client client first (t ∷ ts) (a ∷ ys) e c =
    elim (contains_cons (record { client = client; tx = first; body = t; outcome = a.0; replies = a.1 }) (ended_from client (first + 1) ts ys) e c) [
      | inl same ↦ (
        sym (ap (λ (x : Ended). x.client) same),
        record {
          place = zero;
          tx = sym (ap (λ (x : Ended). x.tx) same) ∙ omega arith;
          asked = ap (λ (x : Ended). Some x.body) same;
          answered = ap (λ (x : Ended). Some (x.outcome, x.replies)) same;
        },
      )
      | inr rest ↦
          let h = in_client client (first + 1) ts ys e rest in
          (h.0, record { place = suc h.1.place; tx = h.1.tx ∙ omega arith; asked = h.1.asked; answered = h.1.answered })
    ]

-- where it stands among those of all clients, the first of them numbered so
record IsAmong (first : ℕ) (scripts : List (List Tx)) (transcripts : List (List Answer)) (e : Ended) : Type 0 where
  place : ℕ
  client : e.client ≡ first + place
  txs : List Tx
  answers : List Answer
  asks : slice_get scripts place ≡ Some txs
  answer : slice_get transcripts place ≡ Some answers
  at : IsIn 1 txs answers e

among_clients : (first : ℕ) (scripts : List (List Tx)) (transcripts : List (List Answer)) (e : Ended) → Contains (clients_from first scripts transcripts) e → IsAmong first scripts transcripts e
among_clients first [] transcripts e c = absurd (contains_none e c)
among_clients first (ts ∷ tss) [] e c = absurd (contains_none e c)
among_clients first (ts ∷ tss) (ys ∷ yss) e c =
    elim (Contains-append_cases (ended_from first 1 ts ys) (clients_from (first + 1) tss yss) e c) [
      | inl here ↦
          let h = in_client first 1 ts ys e here in
          record { place = zero; client = h.0 ∙ omega arith; txs = ts; answers = ys; asks = refl; answer = refl; at = h.1 }
      | inr rest ↦
          let h = among_clients (first + 1) tss yss e rest in
          record { place = suc h.place; client = h.client ∙ omega arith; txs = h.txs; answers = h.answers; asks = h.asks; answer = h.answer; at = h.at }
    ]

-- it is found by its numbers
record IsFound (scripts : List (List Tx)) (transcripts : List (List Answer)) (e : Ended) : Type 0 where
  asked : of_turn scripts e.client e.tx ≡ Some e.body
  answered : of_turn transcripts e.client e.tx ≡ Some (e.outcome, e.replies)

turn_of : {A : Type 0} (lists : List (List A)) (client tx i k : ℕ) (xs : List A) (x : A) → client ≡ 1 + i → tx ≡ 1 + k → slice_get lists i ≡ Some xs → slice_get xs k ≡ Some x
    → of_turn lists client tx ≡ Some x
turn_of {A = A} lists client tx i k xs x client_is tx_is list item =
    let c : client - 1 ≡ i = omega arith in
    let t : tx - 1 ≡ k = omega arith in
    ap (λ (n : ℕ). of_tx (slice_get lists n) tx) c ∙ ap (λ (o : Option (List A)). of_tx o tx) list ∙ ap (slice_get xs) t ∙ item

found : (scripts : List (List Tx)) (transcripts : List (List Answer)) (e : Ended) → Contains (all_ended scripts transcripts) e → IsFound scripts transcripts e
found scripts transcripts e c =
    let h = among_clients 1 scripts transcripts e c in
    record {
      asked = turn_of scripts e.client e.tx h.place h.at.place h.txs e.body h.client h.at.tx h.asks h.at.asked;
      answered = turn_of transcripts e.client e.tx h.place h.at.place h.answers (e.outcome, e.replies) h.client h.at.tx h.answer h.at.answered;
    }

-- an answer's number, if there is one
abbrev number_in : Option Answer → ℕ
number_in None = 0
number_in (Some a) = number_of a.0

-- two that have the same numbers have the same outcome
same_number : (scripts : List (List Tx)) (transcripts : List (List Answer)) (d e : Ended) → Contains (all_ended scripts transcripts) d → Contains (all_ended scripts transcripts) e
    → d.client ≡ e.client → d.tx ≡ e.tx → number_of d.outcome ≡ number_of e.outcome
same_number scripts transcripts d e has_d has_e client tx =
    ap number_in (sym (found scripts transcripts d has_d).answered)
    ∙ ap (λ (n : ℕ). number_in (of_turn transcripts n d.tx)) client ∙ ap (λ (n : ℕ). number_in (of_turn transcripts e.client n)) tx
    ∙ ap number_in (found scripts transcripts e has_e).answered

-- the answers, outcomes and transactions of all are those of the lists
answers_from : (client first : ℕ) (txs : List Tx) (answers : List Answer) → length answers ≡ length txs → answers_of (ended_from client first txs answers) ≡ answers
answers_from client first [] [] same = refl
answers_from client first [] (a ∷ ys) same = absurd (omega arith)
answers_from client first (t ∷ ts) [] same = absurd (omega arith)
answers_from client first (t ∷ ts) (a ∷ ys) same = ap (λ (xs : List Answer). a ∷ xs) (answers_from client (first + 1) ts ys (omega arith))

bodies_from : (client first : ℕ) (txs : List Tx) (answers : List Answer) → length answers ≡ length txs → bodies_of (ended_from client first txs answers) ≡ txs
bodies_from client first [] [] same = refl
bodies_from client first [] (a ∷ ys) same = absurd (omega arith)
bodies_from client first (t ∷ ts) [] same = absurd (omega arith)
bodies_from client first (t ∷ ts) (a ∷ ys) same = ap (λ (xs : List Tx). t ∷ xs) (bodies_from client (first + 1) ts ys (omega arith))

abbrev pub head_or : List ℕ → ℕ
head_or [] = 0
head_or (n ∷ ns) = n

abbrev pub tail_of : List ℕ → List ℕ
tail_of [] = []
tail_of (n ∷ ns) = ns

answers_all : (first : ℕ) (scripts : List (List Tx)) (transcripts : List (List Answer)) → lengths_of transcripts ≡ lengths_of scripts → answers_of (clients_from first scripts transcripts) ≡ joined transcripts
answers_all first [] [] same = refl
answers_all first [] (ys ∷ yss) same = cc
answers_all first (ts ∷ tss) [] same = cc
answers_all first (ts ∷ tss) (ys ∷ yss) same =
    map-append (λ (e : Ended). (e.outcome, e.replies)) (ended_from first 1 ts ys) (clients_from (first + 1) tss yss)
    ∙ ap (λ (xs : List Answer). xs ++ answers_of (clients_from (first + 1) tss yss)) (answers_from first 1 ts ys (ap head_or same))
    ∙ ap (λ (xs : List Answer). ys ++ xs) (answers_all (first + 1) tss yss (ap tail_of same))

bodies_all : (first : ℕ) (scripts : List (List Tx)) (transcripts : List (List Answer)) → lengths_of transcripts ≡ lengths_of scripts → bodies_of (clients_from first scripts transcripts) ≡ joined scripts
bodies_all first [] [] same = refl
bodies_all first [] (ys ∷ yss) same = cc
bodies_all first (ts ∷ tss) [] same = cc
bodies_all first (ts ∷ tss) (ys ∷ yss) same =
    map-append (λ (e : Ended). e.body) (ended_from first 1 ts ys) (clients_from (first + 1) tss yss)
    ∙ ap (λ (xs : List Tx). xs ++ bodies_of (clients_from (first + 1) tss yss)) (bodies_from first 1 ts ys (ap head_or same))
    ∙ ap (λ (xs : List Tx). ts ++ xs) (bodies_all (first + 1) tss yss (ap tail_of same))

outcomes_are : (ended : List Ended) → outcomes_in ended ≡ outcomes_of (answers_of ended)
outcomes_are [] = refl
outcomes_are (e ∷ es) = ap (λ (os : List Outcome). e.outcome ∷ os) (outcomes_are es)

outcomes_all : (scripts : List (List Tx)) (transcripts : List (List Answer)) → lengths_of transcripts ≡ lengths_of scripts → outcomes_in (all_ended scripts transcripts) ≡ all_outcomes transcripts
outcomes_all scripts transcripts same = outcomes_are (all_ended scripts transcripts) ∙ ap outcomes_of (answers_all 1 scripts transcripts same)

-- numbers that rise over all clients rise over each
each_rises : (transcripts : List (List Answer)) → NumbersRise (all_outcomes transcripts) → All (λ (answers : List Answer). NumbersRise (outcomes_of answers)) transcripts
each_rises [] rising = All-nil (λ (answers : List Answer). NumbersRise (outcomes_of answers))
each_rises (ys ∷ yss) rising =
    let both : NumbersRise (outcomes_of ys ++ outcomes_of (joined yss)) = subst NumbersRise (map-append (λ (a : Answer). a.0) ys (joined yss)) rising in
    All-cons (λ (answers : List Answer). NumbersRise (outcomes_of answers)) ys yss (pairs_left IsLater (outcomes_of ys) (outcomes_of (joined yss)) both)
    (each_rises yss (pairs_right IsLater (outcomes_of ys) (outcomes_of (joined yss)) both))

-- the transactions of the commits are those of the entries
txs_are : (opened : Opened) (s : Store) (scripts : List (List Tx)) (transcripts : List (List Answer)) → Holds opened (all_ended scripts transcripts) s
    → committed scripts (rows_from 1 (entries_in s.events)) ≡ txs_of (entries_in s.events)
txs_are opened s scripts transcripts holds = committed_rows scripts 1 (entries_in s.events) (λ place e there.
    let h = holds.made place e there in
    ap (λ (n : ℕ). of_turn scripts n e.log.tx) (sym h.client) ∙ ap (λ (n : ℕ). of_turn scripts h.by.client n) (sym h.tx)
    ∙ (found scripts transcripts h.by h.among).asked ∙ ap (λ (t : Tx). Some t) h.body)

commits_made : (opened : Opened) (s : Store) (ended : List Ended) → Holds opened ended s → All (IsCommitOf ended) (rows_from 1 (entries_in s.events))
commits_made opened s ended holds = λ place d low.
    let r = row_at 1 (entries_in s.events) place d low in
    let h = holds.made place r.entry r.there in
    subst (IsCommitOf ended) (sym r.is) (record { by = h.by; among = h.among; client = h.client; tx = h.tx; outcome = h.outcome ∙ ap (λ (n : ℕ). Commit n) (omega arith) })

commits_once : (opened : Opened) (s : Store) (scripts : List (List Tx)) (transcripts : List (List Answer)) → Holds opened (all_ended scripts transcripts) s
    → AllPairs (λ (c d : model.Commit). c.client ≡ d.client → c.tx ≢ d.tx) (rows_from 1 (entries_in s.events))
commits_once opened s scripts transcripts holds = λ i j d below low client tx.
    let E = entries_in s.events in
    let made = commits_made opened s (all_ended scripts transcripts) holds in
    let a = made i d (omega arith) in
    let b = made j d low in
    let x = row_at 1 E i d (omega arith) in
    let y = row_at 1 E j d low in
    let same = same_number scripts transcripts a.by b.by a.among b.among (a.client ∙ client ∙ sym b.client) (a.tx ∙ tx ∙ sym b.tx) in
    let first : number_of a.by.outcome ≡ 1 + i = ap number_of a.outcome ∙ ap (λ (c : model.Commit). c.number) x.is in
    let second : number_of b.by.outcome ≡ 1 + j = ap number_of b.outcome ∙ ap (λ (c : model.Commit). c.number) y.is in
    omega (arith, same, first, second)

-- all transactions, as they are seen outside
pub ordered_all : (opened : Opened) (s : Store) (scripts : List (List Tx)) (transcripts : List (List Answer)) (order : List model.Commit) → Holds opened (all_ended scripts transcripts) s
    → lengths_of transcripts ≡ lengths_of scripts → order ≡ rows_from 1 (entries_in s.events) → NeverFall order → AreOrdered scripts order transcripts
ordered_all opened s scripts transcripts order holds same is sorted =
    let E = entries_in s.events in
    let rows = rows_from 1 E in
    subst (λ (o : List model.Commit). AreOrdered scripts o transcripts) (sym is) (record {
      numbered = rows_numbered 1 E;
      once = commits_once opened s scripts transcripts holds;
      sorted = subst NeverFall is sorted;
      complete = same;
      ends = holds.ends;
      listed = holds.listed;
      made = commits_made opened s (all_ended scripts transcripts) holds;
      within = subst (λ (n : ℕ). All (λ (e : Ended). number_of e.outcome ≤ n) (all_ended scripts transcripts)) (sym (rows_length 1 E)) holds.within;
      rising = each_rises transcripts (subst NumbersRise (outcomes_all scripts transcripts same) holds.rising);
    })

-- replies on equal databases
replies_by : (at to : ℕ → Database) (body : Tx) (replies : List Reply) (outcome : Outcome) → ((n : ℕ) → at n ≡ to n) → AreReplies at body replies outcome → AreReplies to body replies outcome
replies_by at to body replies (Commit number) same right = subst (λ (d : Database). replies ≡ replies_of d body) (same (number - 1)) right
replies_by at to body replies (Rollback number) same right = subst (λ (d : Database). replies ≡ replies_of d body) (same number) right
replies_by at to body replies (ReadOnly number) same right = right
replies_by at to body replies (Busy number page word) same right = right
replies_by at to body replies (Full number pages) same right = (subst (λ (d : Database). AreFront d body replies) (same number) right.0, right.1)
replies_by at to body replies (Fault number cause) same right = subst (λ (d : Database). AreFront d body replies) (same number) right
replies_by at to body replies (Memory number) same right = subst (λ (d : Database). AreFront d body replies) (same number) right

database_is : (opened : Opened) (s : Store) (scripts : List (List Tx)) (transcripts : List (List Answer)) (db : Database) (n : ℕ) → Holds opened (all_ended scripts transcripts) s
    → after_entries db (entries_in s.events) n ≡ database_at scripts (rows_from 1 (entries_in s.events)) db n
database_is opened s scripts transcripts db n holds =
    sym (database_by_txs n (entries_in s.events) db) ∙ ap (λ (ts : List Tx). database_after db (take n ts)) (sym (txs_are opened s scripts transcripts holds))

pub serial_all : (opened : Opened) (s : Store) (scripts : List (List Tx)) (transcripts : List (List Answer)) (order : List model.Commit) → Holds opened (all_ended scripts transcripts) s
    → lengths_of transcripts ≡ lengths_of scripts → order ≡ rows_from 1 (entries_in s.events) → NeverFall order → WhereWasServed opened (IsSerial scripts order transcripts)
serial_all opened s scripts transcripts order holds same is sorted =
    was_then opened (RepliesSoFar (entries_in s.events) (all_ended scripts transcripts)) (IsSerial scripts order transcripts)
    (λ db right. record {
      ordered = ordered_all opened s scripts transcripts order holds same is sorted;
      replies = subst (λ (o : List model.Commit). All (λ (e : Ended). AreReplies (database_at scripts o db) e.body e.replies e.outcome) (all_ended scripts transcripts)) (sym is)
          (All-weaker (λ (e : Ended). AreReplies (after_entries db (entries_in s.events)) e.body e.replies e.outcome) (λ (e : Ended). AreReplies (database_at scripts (rows_from 1 (entries_in s.events)) db) e.body e.replies e.outcome)
          (λ e. replies_by (after_entries db (entries_in s.events)) (database_at scripts (rows_from 1 (entries_in s.events)) db) e.body e.replies e.outcome
          (λ n. database_is opened s scripts transcripts db n holds)) (all_ended scripts transcripts) right);
    }) holds.replies

pub later_all : (opened : Opened) (s : Store) (scripts : List (List Tx)) (transcripts : List (List Answer)) → Holds opened (all_ended scripts transcripts) s
    → lengths_of transcripts ≡ lengths_of scripts → NumbersRise (all_outcomes transcripts)
later_all opened s scripts transcripts holds same = subst NumbersRise (outcomes_all scripts transcripts same) holds.rising

pub stopped_all : (opened : Opened) (s : Store) (scripts : List (List Tx)) (transcripts : List (List Answer)) → Holds opened (all_ended scripts transcripts) s
    → lengths_of transcripts ≡ lengths_of scripts → StayStopped (all_outcomes transcripts)
stopped_all opened s scripts transcripts holds same = subst StayStopped (outcomes_all scripts transcripts same) holds.lasting

pub plain_all : (opened : Opened) (s : Store) (scripts : List (List Tx)) (transcripts : List (List Answer)) → Holds opened (all_ended scripts transcripts) s
    → lengths_of transcripts ≡ lengths_of scripts → WhereWasServed opened (IsPlain scripts transcripts)
plain_all opened s scripts transcripts holds same =
    was_then opened (PlainSoFar (entries_in s.events) (all_ended scripts transcripts)) (IsPlain scripts transcripts)
    (λ db plain well.
    let run = (plain (subst (All IsWell) (sym (outcomes_all scripts transcripts same)) well)).run [] in
    sym (answers_all 1 scripts transcripts same) ∙ sym (append-nil (answers_of (all_ended scripts transcripts))) ∙ sym run
    ∙ ap (plain_run 0 db) (append-nil (bodies_of (all_ended scripts transcripts)) ∙ bodies_all 1 scripts transcripts same)) holds.plain

-- the cuts, by what the transactions of some entries leave
cuts_serve : (opened : Opened) (h : History) (es : List Entry) → CutsAreServed opened h es → CutsServe opened h (txs_of es) (ops_in es)
cuts_serve opened h es cuts = record {
  covered = cuts.covered;
  each = λ cut is.
      let m = cuts.each cut is in
      record {
        whole = m.whole;
        stops = m.stops;
        pages = pages_after opened.pages (commits_of es) (commits_within (commits_of es) m.whole);
        recovers = m.recovers;
        served = λ db was.
            subst (λ (d : Database). AreServed opened.read (pages_after opened.pages (commits_of es) (commits_within (commits_of es) m.whole)) d)
            (sym (database_by_txs (commits_within (commits_of es) m.whole) es db) ∙ ap (λ (n : ℕ). database_after db (take n (txs_of es))) (within_same m.whole es))
            (m.meets db was);
      };
}

serves_by : (opened : Opened) (h : History) (txs more : List Tx) (ops others : List ℕ) → txs ≡ more → ops ≡ others → CutsServe opened h txs ops → CutsServe opened h more others
serves_by opened h txs more ops others same alike serve = subst (λ (ts : List Tx). CutsServe opened h ts others) same (subst (CutsServe opened h txs) alike serve)

-- the cuts, by the transactions of the commits alone
listed_serve : (opened : Opened) (s : Store) (h : History) (scripts : List (List Tx)) (transcripts : List (List Answer)) (order : List model.Commit) → Holds opened (all_ended scripts transcripts) s
    → order ≡ rows_from 1 (entries_in s.events) → CutsAreServed opened h (entries_in s.events) → CutsServe opened h (committed scripts order) (ops_of order)
listed_serve opened s h scripts transcripts order holds is cuts =
    let E = entries_in s.events in
    subst (λ (o : List model.Commit). CutsServe opened h (committed scripts o) (ops_of o)) (sym is)
    (serves_by opened h (txs_of E) (committed scripts (rows_from 1 E)) (ops_in E) (ops_of (rows_from 1 E)) (sym (txs_are opened s scripts transcripts holds)) (sym (rows_ops 1 E))
    (cuts_serve opened h E cuts))

cuts_all : (opened : Opened) (s : Store) (h : History) (scripts : List (List Tx)) (transcripts : List (List Answer)) (order : List model.Commit) (broken : Option Entry)
    → Holds opened (all_ended scripts transcripts) s → order ≡ rows_from 1 (entries_in s.events) → CutsAreLeft opened h (entries_in s.events) broken → CutsAreSerial opened h scripts order
cuts_all opened s h scripts transcripts order None holds is left = inl (listed_serve opened s h scripts transcripts order holds is left)
cuts_all opened s h scripts transcripts order (Some e) holds is (inl left) = inl (listed_serve opened s h scripts transcripts order holds is left)
cuts_all opened s h scripts transcripts order (Some e) holds is (inr left) =
    let E = entries_in s.events in
    inr (subst (ServeOneMore opened h scripts) (sym is) (record {
      last = e.log.body;
      op = e.ops;
      cuts = serves_by opened h (txs_of (E ++ e ∷ [])) (committed scripts (rows_from 1 E) ++ e.log.body ∷ []) (ops_in (E ++ e ∷ [])) (ops_of (rows_from 1 E) ++ e.ops ∷ [])
          (map-append (λ (x : Entry). x.log.body) E (e ∷ []) ∙ ap (λ (ts : List Tx). ts ++ e.log.body ∷ []) (sym (txs_are opened s scripts transcripts holds)))
          (map-append (λ (x : Entry). x.ops) E (e ∷ []) ∙ ap (λ (ns : List ℕ). ns ++ e.ops ∷ []) (sym (rows_ops 1 E)))
          (cuts_serve opened h (E ++ e ∷ []) left);
    }))

pub cuts_told : (opened : Opened) (s : Store) (told : Option History) (scripts : List (List Tx)) (transcripts : List (List Answer)) (order : List model.Commit)
    → Holds opened (all_ended scripts transcripts) s → order ≡ rows_from 1 (entries_in s.events)
    → IfTold told (λ h. CutsAreLeft opened h (entries_in s.events) (broken_in s.events)) → IfTold told (λ h. CutsAreSerial opened h scripts order)
cuts_told opened s None scripts transcripts order holds is left = tt
cuts_told opened s (Some h) scripts transcripts order holds is left = cuts_all opened s h scripts transcripts order (broken_in s.events) holds is left

-- so it is where no operation has failed
pub exact_told : (opened : Opened) (s : Store) (told : Option History) (faults : ℕ) (scripts : List (List Tx)) (transcripts : List (List Answer)) (order : List model.Commit)
    → Holds opened (all_ended scripts transcripts) s → order ≡ rows_from 1 (entries_in s.events)
    → (s.desk.stopped ≡ None → broken_in s.events ≡ None)
    → ((op : ℕ) → s.desk.stopped ≡ Some op → Rose opened.faults faults ⊎ (s.desk.ops ≡ 2 ^ 64 - 1)) → Counts told s.desk.stopped s.desk.ops
    → IfTold told (λ h. CutsAreLeft opened h (entries_in s.events) (broken_in s.events)) → IfTold told (λ h. CutsAreExact opened faults h scripts order)
exact_told opened s None faults scripts transcripts order holds is unbroken cause counted left = tt
exact_told opened s (Some h) faults scripts transcripts order holds is unbroken cause counted left = go s.desk.stopped unbroken cause counted
  where
    go : (stopped : Option ℕ) → (stopped ≡ None → broken_in s.events ≡ None) → ((op : ℕ) → stopped ≡ Some op → Rose opened.faults faults ⊎ (s.desk.ops ≡ 2 ^ 64 - 1))
        → Counts (Some h) stopped s.desk.ops → CutsAreExact opened faults h scripts order
    go None whole why counts = inl (listed_serve opened s h scripts transcripts order holds is (subst (CutsAreLeft opened h (entries_in s.events)) (whole refl) left))
    go (Some op) whole why counts = elim (why op refl) [ inl rose ↦ inr (inl rose) | inr spent ↦ inr (inr (omega (arith, spent, counts.0))) ]

pub disk_all : (opened : Opened) (s : Store) (scripts : List (List Tx)) (transcripts : List (List Answer)) (told : Option History) (reads faults : ℕ) → Holds opened (all_ended scripts transcripts) s
    → lengths_of transcripts ≡ lengths_of scripts → IsOf opened (record s.desk { told = told; reads = reads; faults = faults }) → told ≡ s.desk.told → Counts s.desk.told s.desk.stopped s.desk.ops
    → IsLeft opened told reads faults (all_outcomes transcripts)
disk_all opened s scripts transcripts told reads faults holds same of is counted = record {
  ops = s.desk.ops;
  stopped = s.desk.stopped;
  of = of;
  counted = subst (λ (t : Option History). Counts t s.desk.stopped s.desk.ops) (sym is) counted;
  named = subst (All (λ (o : Outcome). (op : ℕ) → IsStoppedAt op o → s.desk.stopped ≡ Some op)) (outcomes_all scripts transcripts same) holds.named;
}

few_before : (told : Option History) (ops op : ℕ) → Counts told (Some op) ops → ops ≤ op
few_before None ops op counted = counted
few_before (Some h) ops op counted = omega (arith, counted.0, counted.1)

pub caused_all : (opened : Opened) (told : Option History) (reads faults : ℕ) (outcomes : List Outcome) → IsLeft opened told reads faults outcomes → AreCaused opened faults outcomes
caused_all opened told reads faults outcomes left = λ k d low op is.
    let stopped = left.named k d low op is in
    let few = few_before told left.ops op (subst (λ (o : Option ℕ). Counts told o left.ops) stopped left.counted) in
    elim (left.of.cause op stopped) [ inl rose ↦ inl rose | inr spent ↦ inr (omega (arith, spent, few)) ]

pub last_all : (opened : Opened) (told : Option History) (reads faults : ℕ) (outcomes : List Outcome) → IsLeft opened told reads faults outcomes → IfTold told (λ h. NoneFollows h outcomes)
last_all opened told reads faults outcomes left = go told left.counted
  where
    go : (t : Option History) → Counts t left.stopped left.ops → IfTold t (λ h. NoneFollows h outcomes)
    go None counted = tt
    go (Some h) counted = λ k d low op is. (subst (λ (o : Option ℕ). Counts (Some h) o left.ops) (left.named k d low op is) counted).1
