-- A core that is sound: who is at work in it, and what keeps it so.
use Rattle.std.proofs.Common.{◌≡◌, ◌≢◌, ℕ, ◌<◌, List, [], ◌∷◌, length, drop, take, refl, sym, ap, ◌∙◌, subst, Bool, true, false, Option, Some, None, ⊎_elim}
use Rattle.std.specs.Prelude.{◌&&◌, not, slice_get}
use Rattle.std.specs.Option.{option_map_or}
use Rattle.std.specs.Ordering.{nat_cmp}
use Rattle.std.specs.BTreeMap.{insert_entry}
use Rattle.std.proofs.lemmas.Bool.{and_parts, cases_eq, not-true}
use Rattle.std.proofs.lemmas.List.{take-append-drop}
use Rattle.spe_model.specs.Content.{Content}
use Rattle.spe_model.specs.Covered.{Recovers}
use Rattle.spe_model.specs.Header.{is_size_valid}
use Rattle.spe_model.specs.Settled.{header_in}
use Rattle.spe_model.specs.Trace.{Operation, after}
use Rattle.spe_model.specs.Trace.Operation.{Write, Cut}
use Rattle.spe_transactions.specs.Made.{Makes}
use Rattle.spe_transactions.specs.Pages.{page_at}
use Rattle.spe_transactions.specs.Work.{AtWork, Works, no_works}
use Rattle.spe_core.specs.Changed.{ended, torn_first}
use Rattle.spe_core.specs.Enabled.{is_serving, serves, where_going, where_live, where_working}
use Rattle.spe_core.specs.Laid.{laid}
use Rattle.spe_core.specs.Serial.{ReadFrom}
use Rattle.spe_stored.specs.Sheets.{sheet_at}
use Rattle.spe_core.specs.Sound.{AreLocked, AreServed, IsDoing, IsGoing, IsSound, journalled_of, now_laid, works_in, written_of}
use Rattle.spe_core.specs.State.{Committed, Live, Mode, Serving, Recovering, Phase, Working, Undoing, Ended, State, is_ended, is_working, live_in, live_of, phase_ended, phase_working}
use Rattle.spe_core.proofs.SoundLaid.{laid_same}
use Rattle.spe_core.proofs.SoundLocks.{FitsLocks, locked_none, locked_put}
use Rattle.spe_core.proofs.SoundSheets.{live_other, live_same}
use Rattle.spe_core.proofs.SoundWorks.{works_none}

-- a core with the same commits is sound too, where its files are
pub sound_like : (s other : State) → other.opening ≡ s.opening → other.commits ≡ s.commits → other.slots ≡ s.slots → IsSound s → length other.content ≡ 17 → Recovers other.content (now_laid s)
    → IsDoing other.mode other.slots other.live other.content (now_laid s) → IsSound other
sound_like s other opening commits slots sound files recovers doing =
    let same : now_laid s ≡ now_laid other = sym (laid_same s other opening commits (length other.commits) ∙ ap (λ (cs : List Committed). laid s (length cs)) commits) in
    record {
      reads = λ n c found.
          subst (λ (pages : List (List ℕ)). ReadFrom pages c) (sym (laid_same s other opening commits n)) (sound.reads n c (ap (λ (cs : List Committed). slice_get cs n) (sym commits) ∙ found));
      files = files;
      recovers = subst (Recovers other.content) same recovers;
      counted = subst (λ (pages : List (List ℕ)). is_size_valid (header_in pages) ≡ true) same sound.counted;
      slots = rw slots sound.slots;
      doing = subst (IsDoing other.mode other.slots other.live other.content) same doing;
    }

-- what is done while serving
pub served : (mode : Mode) (slots : ℕ) (live : List (ℕ × Live)) (content : Content) (pages : List (List ℕ)) → serves mode ≡ true → IsDoing mode slots live content pages → AreServed slots live content pages
served Serving slots live content pages serving doing = doing
served (Recovering ops) slots live content pages serving doing = absurd cc

pub serving : (mode : Mode) (slots : ℕ) (live : List (ℕ × Live)) (content : Content) (pages : List (List ℕ)) → serves mode ≡ true → AreServed slots live content pages → IsDoing mode slots live content pages
serving Serving slots live content pages is doing = doing
serving (Recovering ops) slots live content pages is doing = absurd cc

-- a transaction that has not ended
pub record IsAtWork (s : State) (id : ℕ) (t : Live) : Type 0 where
  pub serves : serves s.mode ≡ true
  pub goes : IsGoing s.live id t
  pub all : AreServed s.slots s.live s.content (now_laid s)

-- a transaction is live only while the files are served
live_serves : (mode : Mode) (slots : ℕ) (live : List (ℕ × Live)) (content : Content) (pages : List (List ℕ)) (id : ℕ) (t : Live) → live_in id live ≡ Some t → IsDoing mode slots live content pages → serves mode ≡ true
live_serves Serving slots live content pages id t its doing = refl
live_serves (Recovering left) slots live content pages id t its doing = absurd (let none : None ≡ Some t = ap (live_in id) (sym doing.nobody) ∙ its in cc)

pub unended : (s : State) (id : ℕ) (t : Live) → IsSound s → live_in id s.live ≡ Some t → is_ended t ≡ false → IsAtWork s id t
unended s id t sound its going =
    let is_served : serves s.mode ≡ true = live_serves s.mode s.slots s.live s.content (now_laid s) id t its sound.doing in
    record { serves = is_served; goes = record { its = its; going = going }; all = served s.mode s.slots s.live s.content (now_laid s) is_served sound.doing }

-- the locks of the live transactions, whether they have ended or not
pub locked_now : (s : State) → IsSound s → AreLocked s.slots s.live
locked_now s sound = by_mode s.mode sound.doing
  where
    by_mode : (mode : Mode) → IsDoing mode s.slots s.live s.content (now_laid s) → AreLocked s.slots s.live
    by_mode Serving doing = doing.locked
    by_mode (Recovering left) doing = locked_none s.slots s.live doing.nobody

working_going : (phase : Phase) → phase_working phase ≡ true → phase_ended phase ≡ false
working_going Working working = refl
working_going Undoing working = refl
working_going Ended working = absurd cc

-- a transaction that works, or has not ended, and passes a test
pub record IsGoingWith (s : State) (id : ℕ) (test : Live → Bool) : Type 0 where
  pub t : Live
  pub its : live_in id s.live ≡ Some t
  pub work : IsAtWork s id t
  pub passes : test t ≡ true

pub found_live : (test : Live → Bool) (found : Option Live) → option_map_or test found false ≡ true → (t : Live) × (found ≡ Some t) × (test t ≡ true)
found_live test None passes = absurd cc
found_live test (Some t) passes = (t, refl, passes)

pub working_with : (s : State) (id : ℕ) (test : Live → Bool) → IsSound s → where_working s id test ≡ true → IsGoingWith s id test
working_with s id test sound may =
    let parts = and_parts (is_serving s) (where_live s id (λ t. is_working t && test t)) may in
    let found = found_live (λ t. is_working t && test t) (live_of s id) parts.1 in
    let both = and_parts (is_working found.0) (test found.0) found.2 in
    record { t = found.0; its = found.1; work = unended s id found.0 sound found.1 (working_going found.0.phase both.0); passes = both.1 }

pub going_with : (s : State) (id : ℕ) (test : Live → Bool) → IsSound s → where_going s id test ≡ true → IsGoingWith s id test
going_with s id test sound may =
    let parts = and_parts (is_serving s) (where_live s id (λ t. not (is_ended t) && test t)) may in
    let found = found_live (λ t. not (is_ended t) && test t) (live_of s id) parts.1 in
    let both = and_parts (not (is_ended found.0)) (test found.0) found.2 in
    record { t = found.0; its = found.1; work = unended s id found.0 sound found.1 (not-true (is_ended found.0) both.0); passes = both.1 }

-- what a transaction has read is among some pages
abbrev pub HasSeen : List (List ℕ) → Live → Type 0
HasSeen pages t = (p : ℕ) (bytes : List ℕ) → sheet_at p t.seen ≡ Some bytes → page_at pages p ≡ Some bytes

-- one transaction changed, and what the others have read is among the pages then
pub record IsChanged (s : State) (id : ℕ) (u : Live) (content : Content) (pages : List (List ℕ)) : Type 0 where
  pub low : is_ended u ≡ false → id < 16
  pub seen : is_ended u ≡ false → HasSeen pages u
  pub others : (j : ℕ) (x : Live) → j ≢ id → IsGoing s.live j x → HasSeen pages x
  pub fits : FitsLocks s.slots s.live id u
  pub work : AtWork content pages (works_in journalled_of (insert_entry nat_cmp s.live id u)) (works_in written_of (insert_entry nat_cmp s.live id u))

pub changed_served : (s : State) (id : ℕ) (u : Live) (content : Content) (pages : List (List ℕ)) → AreServed s.slots s.live s.content (now_laid s) → IsChanged s id u content pages
    → AreServed s.slots (insert_entry nat_cmp s.live id u) content pages
changed_served s id u content pages a c = record {
  work = c.work;
  numbered = λ i x g.
      ⊎_elim
      (λ (here : i ≡ id). rw here (c.low (ap is_ended (own i x here g.its) ∙ g.going)))
      (λ (other : i ≢ id). a.numbered i x (old i x other g))
      (cases_eq i id);
  seen = λ i x g.
      ⊎_elim
      (λ (here : i ≡ id). let same : u ≡ x = own i x here g.its in subst (HasSeen pages) same (c.seen (ap is_ended same ∙ g.going)))
      (λ (other : i ≢ id). c.others i x other (old i x other g))
      (cases_eq i id);
  locked = locked_put s.slots s.live id u a.locked c.fits;
}
  where
    own : (i : ℕ) (x : Live) → i ≡ id → live_in i (insert_entry nat_cmp s.live id u) ≡ Some x → u ≡ x
    own i x here its =
        let both : Some u ≡ Some x = sym (live_same id u s.live) ∙ ap (λ (n : ℕ). live_in n (insert_entry nat_cmp s.live id u)) (sym here) ∙ its in
        cc

    old : (i : ℕ) (x : Live) → i ≢ id → IsGoing (insert_entry nat_cmp s.live id u) i x → IsGoing s.live i x
    old i x other g = record { its = sym (live_other id i u s.live other) ∙ g.its; going = g.going }

-- where no transaction is live
pub nobody_served : (slots : ℕ) (live : List (ℕ × Live)) (content : Content) (pages : List (List ℕ)) → live ≡ [] → AtWork content pages no_works no_works → AreServed slots live content pages
nobody_served slots live content pages nobody work = record {
  work =
      subst (λ (works : Works). AtWork content pages works (works_in written_of live)) (sym (works_none journalled_of live ends))
      (subst (AtWork content pages no_works) (sym (works_none written_of live ends)) work);
  numbered = λ id t g. absurd (none id t g);
  seen = λ id t g. absurd (none id t g);
  locked = locked_none slots live nobody;
}
  where
    ends : (id : ℕ) (t : Live) → live_in id live ≡ Some t → is_ended t ≡ true
    ends id t found = absurd (let none : None ≡ Some t = ap (live_in id) (sym nobody) ∙ found in cc)

    none : (id : ℕ) (t : Live) → IsGoing live id t → ⊥
    none id t g = let impossible : true ≡ false = sym (ends id t g.its) ∙ g.going in cc

-- the transaction changed what it lists, and goes on or has ended
pub goes_on : (s : State) (id : ℕ) (t u : Live) (content : Content) (pages : List (List ℕ)) → IsAtWork s id t → HasSeen pages u
    → ((j : ℕ) (x : Live) → j ≢ id → IsGoing s.live j x → HasSeen pages x) → FitsLocks s.slots s.live id u
    → (journalled written : Works) → works_in journalled_of (insert_entry nat_cmp s.live id u) ≡ journalled → works_in written_of (insert_entry nat_cmp s.live id u) ≡ written
    → AtWork content pages journalled written → IsDoing s.mode s.slots (insert_entry nat_cmp s.live id u) content pages
goes_on s id t u content pages w seen others fits journalled written j n work =
    serving s.mode s.slots (insert_entry nat_cmp s.live id u) content pages w.serves
    (changed_served s id u content pages w.all (record {
      low = λ going. w.all.numbered id t w.goes;
      seen = λ going. seen;
      others = others;
      fits = fits;
      work = subst (λ (works : Works). AtWork content pages works (works_in written_of (insert_entry nat_cmp s.live id u))) (sym j) (subst (AtWork content pages journalled) (sym n) work);
    }))

-- some first bytes of an operation leave the pages
pub torn_leaves : (content : Content) (o : Operation) (pages : List (List ℕ)) (journalled written : Works) (n : ℕ) → Recovers content pages → Makes content o pages pages journalled written
    → Recovers (after content (torn_first (o ∷ []) n)) pages
torn_leaves content (Write file at bytes) pages journalled written n recovers m =
    m.torn (Write file at (take n bytes)) (refl, refl, (drop n bytes, sym (take-append-drop n bytes)))
torn_leaves content (Cut file size) pages journalled written n recovers m = recovers
