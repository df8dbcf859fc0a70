-- A transaction that has carried out its statements, or some of them.
use Rattle.std.proofs.Common.{◌≡◌, ◌<◌, ◌≤◌, ◌∙◌, ℕ, List, [], ◌∷◌, ◌++◌, length, take, All, Option, Some, None, Result, Ok, Err, OnOk, refl, sym, ap, subst, arith}
use Rattle.std.specs.Prelude.{IfErr, IfOk, OnErr, max}
use Rattle.std.proofs.lemmas.List.{length-append, take_all}
use Rattle.std.proofs.lemmas.List.Elements.{All-cons, All-head, All-nil, All-tail}
use Rattle.spe_model.specs.declared.reply.Reply.{Reply}
use Rattle.spe_model.specs.declared.statement.Statement.{Statement}
use Rattle.spe_model.specs.declared.transaction.Tx.{Tx}
use Rattle.spe_model.specs.declared.transaction.TxKind.{TxKind}
use Rattle.spe_model.specs.Database.{Database}
use Rattle.spe_model.specs.Meaning.{meaning, replies_from, replies_of}
use Rattle.spe_model.specs.Paging.{Agrees, Given, PageMap, Paging}
use Rattle.spe_model.specs.Trace.{History}
use Rattle.spe_space.specs.declared.pages.Pages.{Ghosts}
use Rattle.spe_space.specs.declared.fault.SpaceFault.{SpaceFault}
use Rattle.spe_space.specs.declared.fault.SpaceFault.TheVariants as faults
use Rattle.spe_space.specs.declared.fault.TreeFault.{TreeFault}
use Rattle.spe_space.specs.declared.fault.TreeFault.TheVariants as trees
use Rattle.spe_space.specs.Outcome.{OnFull}
use Rattle.spe_transactions.specs.Pages.{page_at}
use Rattle.spe_store.specs.Opened.{Opened}
use Rattle.spe_store.specs.Served.{AreServed, Entry, database_after, pages_of}
use Rattle.spe_store.specs.Store.{AreSeen, IfTold}
use Rattle.spe_exec.specs.Justifying.{JustifiedIn}
use Rattle.spe_session.specs.Carried.{IsFront}
use Rattle.spe_store.specs.declared.log.Log.{Log}
use Rattle.spe_store.specs.declared.session.SessionSeat.{SessionSeat}
use Rattle.spe_session.specs.declared.fault.EndFailed.{EndFailed}
use Rattle.spe_session.specs.declared.fault.EndFault.{EndFault}
use Rattle.spe_session.specs.declared.fault.EndFault.TheVariants as ends_by
use Rattle.spe_session.specs.Ending.{AddsEntry, told_after}
use Rattle.spe_session.specs.Transaction.{AreFront, AreRight, IsOwnFault, IsToldBy, OnTreeFull, RestsOn, failed_outcome, number_of, outcome_after, outcome_of}

pub on_ok : {X E : Type 0} (r : Result X E) (A B : Type 0) → (A → B) → OnOk r A → OnOk r B
on_ok (Ok x) A B f a = f a
on_ok (Err e) A B f a = tt

full_of : (what : Type 0) (f : SpaceFault) → what → OnFull what f
full_of what (faults.Busy page word) w = tt
full_of what faults.Read w = tt
full_of what (faults.Stopped op) w = tt
full_of what (faults.Full pages) w = w
full_of what (faults.PageOut page pages) w = tt
full_of what (faults.Corrupt page) w = tt
full_of what faults.Memory w = tt

-- what is so of each fault is so of Full
pub short_of : {X : Type 0} (r : Result X TreeFault) (what : Type 0) → IfErr r (λ f. what) → IfErr r (OnTreeFull what)
short_of (Ok x) what w = tt
short_of (Err (trees.Space f)) what w = full_of what f w
short_of (Err (trees.Corrupt page)) what w = tt

-- the replies to some first statements are the first replies
first_replies : (kind : TxKind) (db : Database) (done left : List Statement) → replies_from kind db done ≡ take (length done) (replies_from kind db (done ++ left))
first_replies kind db [] left = refl
first_replies kind db (s ∷ ss) left = ap (λ (rs : List Reply). (meaning kind db s).1 ∷ rs) (first_replies kind (meaning kind db s).0 ss left)

agrees_by : (pages : List (List ℕ)) (paging : Paging) (xs : List (List ℕ)) (n : ℕ) → ((p : ℕ) (bytes : List ℕ) → page_at pages p ≡ Some bytes → paging p ≡ bytes)
    → All (λ (bytes : List ℕ). page_at pages n ≡ Some bytes) xs → All (λ (bytes : List ℕ). paging n ≡ bytes) xs
agrees_by pages paging [] n gives all = All-nil (λ (bytes : List ℕ). paging n ≡ bytes)
agrees_by pages paging (x ∷ xs) n gives all =
    All-cons (λ (bytes : List ℕ). paging n ≡ bytes) x xs (gives n x (All-head (λ (bytes : List ℕ). page_at pages n ≡ Some bytes) x xs all))
    (agrees_by pages paging xs n gives (All-tail (λ (bytes : List ℕ). page_at pages n ≡ Some bytes) x xs all))

-- what was given of pages agrees with any pages that have theirs
seen_agrees : (pages : List (List ℕ)) (paging : Paging) (seen : Given) → ((p : ℕ) (bytes : List ℕ) → page_at pages p ≡ Some bytes → paging p ≡ bytes) → AreSeen pages seen → Agrees paging seen
seen_agrees pages paging seen gives are = record { each = λ n. agrees_by pages paging (seen n) n gives (are n) }

-- the pages after the commits are served for what these leave
served_now : (opened : Opened) (entries : List Entry) (seen : Given) → RestsOn opened entries seen → (db : Database) → AreServed opened.read opened.pages db
    → AreServed opened.read (pages_of opened entries) (database_after db entries)
served_now opened entries seen rests db was =
    subst (λ (es : List Entry). AreServed opened.read (pages_of opened entries) (database_after db es)) (take_all (length entries) entries (omega arith)) (rests.says db was)

module _ {P : Type 0} (g : Ghosts P) (opened : Opened) (entries : List Entry) (s : P) (rests : RestsOn opened entries (g.seen s)) (kind : TxKind) where
  -- justified replies to all statements are those on the database that the commits leave
  pub all_right : (statements : List Statement) (replies : List Reply) → JustifiedIn g opened.read (record { kind = kind; statements = statements; replies = replies }) s
      → (db : Database) → AreServed opened.read opened.pages db → replies ≡ replies_from kind (database_after db entries) statements
  all_right statements replies justified db was =
      let now = served_now opened entries (g.seen s) rests db was in
      justified.replied (length (pages_of opened entries)) now.paging (database_after db entries) now.served (seen_agrees (pages_of opened entries) now.paging (g.seen s) now.gives rests.seen_is)

  -- and those to some first ones are the first of these
  pub front_right : (statements : List Statement) (replies : List Reply) → IsFront g opened.read kind statements replies s
      → (db : Database) → AreServed opened.read opened.pages db → (k : ℕ) × (replies ≡ take k (replies_from kind (database_after db entries) statements))
  front_right statements replies front db was =
      let now = served_now opened entries (g.seen s) rests db was in
      let first : replies ≡ replies_from kind (database_after db entries) front.done =
      front.replied (length (pages_of opened entries)) now.paging (database_after db entries) now.served (seen_agrees (pages_of opened entries) now.paging (g.seen s) now.gives rests.seen_is) in (
        length front.done,
        first ∙ first_replies kind (database_after db entries) front.done front.left
            ∙ ap (λ (ss : List Statement). take (length front.done) (replies_from kind (database_after db entries) ss)) (sym front.split),
      )

pub told_map : (told : Option History) (A B : History → Type 0) → ((h : History) → A h → B h) → IfTold told A → IfTold told B
told_map None A B f a = tt
told_map (Some h) A B f a = f h a

-- all commits are the first of them, as many as there are
pub all_taken : (entries : List Entry) (number : ℕ) → number ≡ length entries → take number entries ≡ entries
all_taken entries number is = take_all number entries (omega (arith, is))

-- the replies before a fault are right, on the database that all commits leave
pub fault_right : (entries : List Entry) (db : Database) (body : Tx) (replies : List Reply) (number : ℕ) (fault : TreeFault) → number ≡ length entries
    → IsOwnFault fault → OnTreeFull (length replies < length body.statements) fault → AreFront (database_after db entries) body replies → AreRight entries db body replies (outcome_of number fault)
fault_right entries db body replies number fault is own short front =
    by_fault fault own short (subst (λ (es : List Entry). AreFront (database_after db es) body replies) (sym (all_taken entries number is)) front)
  where
    by_fault : (f : TreeFault) → IsOwnFault f → OnTreeFull (length replies < length body.statements) f → AreFront (database_after db (take number entries)) body replies
        → AreRight entries db body replies (outcome_of number f)
    by_fault (trees.Space (faults.Busy page word)) own short front = absurd cc
    by_fault (trees.Space faults.Read) own short front = front
    by_fault (trees.Space (faults.Stopped op)) own short front = absurd cc
    by_fault (trees.Space (faults.Full pages)) own short front = (front, short)
    by_fault (trees.Space (faults.PageOut page pages)) own short front = front
    by_fault (trees.Space (faults.Corrupt page)) own short front = front
    by_fault (trees.Space faults.Memory) own short front = front
    by_fault (trees.Corrupt page) own short front = front

whole_front : (db : Database) (body : Tx) (replies : List Reply) → replies ≡ replies_of db body → AreFront db body replies
whole_front db body replies all = (length (replies_of db body), all ∙ sym (take_all (length (replies_of db body)) (replies_of db body) (omega arith)))

-- the replies of a transaction that was to commit are right, whether it did or not
pub commit_right : (entries : List Entry) (db : Database) (body : Tx) (replies : List Reply) (answer : Result ℕ EndFailed)
    → IfErr answer (λ (f : EndFailed). f.number ≡ length entries) → replies ≡ replies_of (database_after db entries) body → AreRight entries db body replies (outcome_after answer)
commit_right entries db body replies (Ok number) failed all = all
commit_right entries db body replies (Err f) failed all = by_why f.why
    (subst (λ (es : List Entry). AreFront (database_after db es) body replies) (sym (all_taken entries f.number failed)) (whole_front (database_after db entries) body replies all))
  where
    by_why : (why : EndFault) → AreFront (database_after db (take f.number entries)) body replies → AreRight entries db body replies (failed_outcome f.number why)
    by_why ends_by.Read front = front
    by_why (ends_by.Stopped op) front = front
    by_why ends_by.Memory front = front

failed_number : (number : ℕ) (why : EndFault) → number_of (failed_outcome number why) ≡ number
failed_number number ends_by.Read = refl
failed_number number (ends_by.Stopped op) = refl
failed_number number ends_by.Memory = refl

-- what its session was told
pub commit_told : (before after : List Entry) (old new : SessionSeat) (answer : Result ℕ EndFailed) (session : ℕ) (log : Log) (wrote : PageMap)
    → new ≡ record old { told = told_after old.told answer } → old.told ≤ length before → OnOk answer (AddsEntry before after session log wrote) → OnErr answer (after ≡ before)
    → IfOk answer (λ (n : ℕ). n ≡ length after) → IfErr answer (λ (f : EndFailed). f.number ≡ length before) → IsToldBy after old new (outcome_after answer)
commit_told before after old new (Ok number) session log wrote is low adds left counted failed =
    let longer : length after ≡ length (before ++ record { log = log; session = session; ops = adds.ops; wrote = wrote } ∷ []) = ap (λ (es : List Entry). length es) adds.is in
    let one = length-append before (record { log = log; session = session; ops = adds.ops; wrote = wrote } ∷ []) in
    record { number = is; low = omega (arith, low, longer, one, counted); high = omega (arith, counted) }
commit_told before after old new (Err f) session log wrote is low adds left counted failed =
    let same : length after ≡ length before = ap (λ (es : List Entry). length es) left in
    let told : max old.told f.number ≡ f.number = omega (arith, low, failed) in
    let number : number_of (failed_outcome f.number f.why) ≡ f.number = failed_number f.number f.why in
    record {
      number = is ∙ ap (λ (n : ℕ). record old { told = n }) (told ∙ sym number);
      low = omega (arith, low, failed, number);
      high = omega (arith, same, failed, number);
    }
