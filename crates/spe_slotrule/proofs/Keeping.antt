-- A step of one seat keeps the rule where what it makes of the view is right.
use Rattle.std.proofs.Common.{◌≡◌, ℕ, zero, suc, ◌+◌, ◌<◌, List, [], ◌∷◌, ◌++◌, map, length, get_or, set, sym, refl, ap, ◌∙◌, subst, ⊎_elim, arith, length-set, Option, Some, None}
use Rattle.std.proofs.lemmas.List.{map-set}
use mathlib.Core.Option.{some, some-injective, some-ne-none}
use lib.ListN.{get_elem?}
use lib.Seq.{set-get_or}
use Rattle.atomic_table.specs.Table.{State, keeps, stepped}
use Rattle.atomic_table.proofs.Lists.{at_map, at_set, set_again, at_longer}
use Rattle.spe_slotrule.specs.declared.rule.TheConstants.{FIRST_LOCK}
use Rattle.spe_slotrule.specs.declared.parts.NotePart.{NotePart}
use Rattle.spe_slotrule.specs.declared.parts.SessionPart.{SessionPart}
use Rattle.spe_slotrule.specs.declared.parts.StorePart.{StorePart}
use Rattle.spe_slotrule.specs.declared.parts.View.{View}
use Rattle.spe_slotrule.specs.Stands.{Stands}
use Rattle.spe_slotrule.specs.Views.{id_key, session_key, only_key, id_of, store_of, session_of, maker_of, note_of, part_or}
use Rattle.spe_slotrule.specs.Known.{NoteFits}
use Rattle.spe_slotrule.specs.Rule.{Parts, AllStand, AreRight, NotesFit, KeepsRule, words_of}
use Rattle.spe_slotrule.specs.Laid.{put, IsAt, IsThe, owned, laid, NoteIsRight, ClosedAreApart, IsOf, Sits}
use Rattle.spe_slotrule.proofs.Lists.{behind, at_behind, set_behind}
use Rattle.spe_slotrule.proofs.Standing.{changes, adds}

abbrev pub Held : Type 0 → Type 0
Held E = State (Unit {0}) (View E)

-- the lock word k stands behind the four words of the table
pub lock_get : (a b c d k : ℕ) (ls : List ℕ) → get_or (a ∷ b ∷ c ∷ d ∷ ls) (k + FIRST_LOCK) 0 ≡ get_or ls k 0
lock_get a b c d k ls = let e : k + FIRST_LOCK ≡ suc (suc (suc (suc k))) = omega arith in ap (λ (i : ℕ). get_or (a ∷ b ∷ c ∷ d ∷ ls) i 0) e

pub lock_set : (a b c d k n : ℕ) (ls : List ℕ) → set (a ∷ b ∷ c ∷ d ∷ ls) (k + FIRST_LOCK) n ≡ a ∷ b ∷ c ∷ d ∷ set ls k n
lock_set a b c d k n ls = let e : k + FIRST_LOCK ≡ suc (suc (suc (suc k))) = omega arith in ap (λ (i : ℕ). set (a ∷ b ∷ c ∷ d ∷ ls) i n) e

pub map_at : {A B : Type 0} (f : A → B) (l : List A) (i : ℕ) (a : A) (d : B) → get_elem? l i ≡ some a → get_or (map f l) i d ≡ f a
map_at f [] i a d e = absurd (some-ne-none a (sym e))
map_at f (x ∷ xs) zero a d e = ap f (some-injective x a e)
map_at f (x ∷ xs) (suc i) a d e = map_at f xs i a d e

-- a view keeps its part of a kind, or has none before and after
abbrev pub Stays : {P : Type 0} → (P → ℕ) → Option P → Option P → Type 0
Stays key None None = Unit {0}
Stays key (Some p) (Some q) = key q ≡ key p
Stays key None (Some q) = ⊥
Stays key (Some p) None = ⊥

module _ {P : Type 0} (key : P → ℕ) where
  pub part_step : (parts : List P) (before views : List (Option P)) (me : ℕ) (x y : Option P) → Stays key x y → get_elem? views me ≡ some x → Stands key parts (before ++ views) → Stands key (put key parts y) (before ++ set views me y)
  part_step parts before views me None None ok at h = subst (λ (l : List (Option P)). Stands key parts (before ++ l)) (sym (set_again views me None at)) h
  part_step parts before views me (Some p) (Some q) same at h = subst (λ (i : ℕ). Stands key (set parts i q) (before ++ set views me (Some q))) (sym same)
      (subst (λ (l : List (Option P)). Stands key (set parts (key p) q) l) (set_behind before views me (Some q))
      (changes key parts (before ++ views) (behind before me) p q same (at_behind before views me ∙ at) h))
  part_step parts before views me None (Some q) ok at h = absurd ok
  part_step parts before views me (Some p) None ok at h = absurd ok

  pub is_at : (parts : List P) (before views : List (Option P)) (me : ℕ) (x : Option P) → get_elem? views me ≡ some x → Stands key parts (before ++ views) → IsAt key parts x
  is_at parts before views me None at h = tt
  is_at parts before views me (Some p) at h = h.known (behind before me) p (at_behind before views me ∙ at)

  pub part_added : (parts : List P) (before views : List (Option P)) (me : ℕ) (p : P) → key p ≡ length parts → get_elem? views me ≡ some None → Stands key parts (before ++ views) → Stands key (parts ++ p ∷ []) (before ++ set views me (Some p))
  part_added parts before views me p is at h = subst (Stands key (parts ++ p ∷ [])) (set_behind before views me (Some p)) (adds key parts (before ++ views) (behind before me) p is (at_behind before views me ∙ at) h)

pub put_length : {P : Type 0} (key : P → ℕ) (parts : List P) (x : Option P) → length (put key parts x) ≡ length parts
put_length key parts None = refl
put_length key parts (Some p) = length-set parts (key p) p

module _ {P : Type 0} where
  is_the : (the : P) (views : List (Option P)) (me : ℕ) (x : Option P) → get_elem? views me ≡ some x → Stands only_key (the ∷ []) views → IsThe the x
  is_the the views me None at h = tt
  is_the the views me (Some p) at h = some-injective _ _ (h.known me p at)

  the_same : (the : P) (x : Option P) → IsThe the x → part_or the x ≡ the
  the_same the None is = refl
  the_same the (Some p) is = sym is

  pub only_put : (the : P) (x : Option P) → put only_key (the ∷ []) x ≡ part_or the x ∷ []
  only_put the None = refl
  only_put the (Some p) = refl

module _ {E : Type 0} where
  abbrev SameClosed : Option (StorePart E) → Option (StorePart E) → Type 0
  SameClosed (Some s) (Some t) = t.closed ≡ s.closed
  SameClosed (Some s) None = Unit {0}
  SameClosed None t = Unit {0}

  same_closed : (the : StorePart E) (s t : Option (StorePart E)) → Stays only_key s t → IsThe the s → SameClosed s t → the.closed ≡ (part_or the t).closed
  same_closed the None None ok is same = refl
  same_closed the (Some s) (Some t) ok is same = ap (λ (x : StorePart E). x.closed) is ∙ sym same
  same_closed the None (Some t) ok is same = absurd ok
  same_closed the (Some s) None ok is same = absurd ok

  abbrev SameWords : Option (StorePart E) → Option (StorePart E) → Type 0
  SameWords (Some s) (Some t) = (length t.commits ≡ length s.commits) × (t.floor ≡ s.floor)
  SameWords (Some s) None = Unit {0}
  SameWords None t = Unit {0}

  same_words : (the : StorePart E) (s t : Option (StorePart E)) → Stays only_key s t → IsThe the s → SameWords s t → (length the.commits ≡ length (part_or the t).commits) × (the.floor ≡ (part_or the t).floor)
  same_words the None None ok is same = (refl, refl)
  same_words the (Some s) (Some t) ok is same = (ap (λ (x : StorePart E). length x.commits) is ∙ sym same.0, ap (λ (x : StorePart E). x.floor) is ∙ sym same.1)
  same_words the None (Some t) ok is same = absurd ok
  same_words the (Some s) None ok is same = absurd ok

  -- the view has the same parts after the step
  pub record Steps (v w : View E) : Type 0 where
    pub id : Stays id_key v.id w.id
    pub store : Stays only_key v.store w.store
    pub session : Stays session_key v.session w.session
    pub maker : Stays only_key v.maker w.maker
    pub closed : SameClosed v.store w.store

  -- what the step makes of the parts is right, and so are the notes
  pub record Keeps (v w : View E) (locks : List ℕ) (x : Parts E) : Type 0 where
    pub right : AreRight (laid w locks x)
    pub notes : (a : NotePart E) → NoteFits (owned v x).store a → NoteFits (laid w locks x).store a
    pub note : NoteIsRight (laid w locks x).store w.note

  -- what a step that changes no word has to show, of whatever parts the table has
  abbrev pub Shown : View E → View E → Type 0
  Shown v w = (x : Parts E) → IsOf v (owned v x) → AreRight (owned v x) → Keeps v w x.locks x

  -- and one by which the lock word k, which was `was`, becomes another
  abbrev pub LockShown : View E → View E → ℕ → ℕ → ℕ → Type 0
  LockShown v w k was new = (x : Parts E) → k < length x.locks → get_or x.locks k 0 ≡ was → IsOf v (owned v x) → AreRight (owned v x) → Keeps v w (set x.locks k new) x

  -- the view's own store and maker are the table's
  pub own_parts : (x : Parts E) (views : List (View E)) (me : ℕ) (v : View E) → get_elem? views me ≡ some v → AllStand x views → owned v x ≡ x
  own_parts x views me v at h =
      let s = the_same x.store v.store (is_the x.store (map store_of views) me v.store (at_map store_of views me v at) h.store) in
      let m = the_same x.maker v.maker (is_the x.maker (map maker_of views) me v.maker (at_map maker_of views me v at) h.maker) in
      λ i. record { ids = x.ids; sessions = x.sessions; store = s i; maker = m i; locks = x.locks }

  pub note_right : (s : StorePart E) (notes : List (Option (NotePart E))) (me : ℕ) (x : Option (NotePart E)) → get_elem? notes me ≡ some x → NotesFit s notes → NoteIsRight s x
  note_right s notes me None at h = tt
  note_right s notes me (Some a) at h = h me a at

  pub note_after : (s : StorePart E) (x : Option (NotePart E)) (a : NotePart E) → x ≡ Some a → NoteIsRight s x → NoteFits s a
  note_after s x a e h = subst (NoteIsRight s) e h

  closed_apart : (x : Parts E) (views : List (View E)) → AllStand x views → ClosedAreApart x.sessions x.store.closed
  closed_apart x views h =
      let there : (i : ℕ) (p : SessionPart E) → get_elem? x.store.closed i ≡ some p → get_elem? (map (λ (q : SessionPart E). Some q) x.store.closed ++ map session_of views) i ≡ some (Some p) =
      λ i p e. at_longer (map (λ (q : SessionPart E). Some q) x.store.closed) (map session_of views) i (Some p) (at_map (λ (q : SessionPart E). Some q) x.store.closed i p e) in record {
        known = λ i p e. h.sessions.known i p (there i p e);
        once = λ i j p q e f same. h.sessions.once i j p q (there i p e) (there j q f) same;
      }

  view_is_of : (x : Parts E) (views : List (View E)) (me : ℕ) (v : View E) → get_elem? views me ≡ some v → AllStand x views → NotesFit x.store (map note_of views) → IsOf v x
  view_is_of x views me v at h notes = record {
    id = is_at id_key x.ids [] (map id_of views) me v.id (at_map id_of views me v at) h.ids;
    session = is_at session_key x.sessions (map (λ (q : SessionPart E). Some q) x.store.closed) (map session_of views) me v.session (at_map session_of views me v at) h.sessions;
    note = note_right x.store (map note_of views) me v.note (at_map note_of views me v at) notes;
    closed = closed_apart x views h;
    keyed = h.sessions.keyed;
  }

  pub sits : (n : ℕ) (s : Held E) (r : KeepsRule n s) (me : ℕ) (v : View E) → get_elem? s.views me ≡ some v → IsOf v (owned v r.parts) × AreRight (owned v r.parts)
  sits n s r me v at = subst (λ (y : Parts E). IsOf v y × AreRight y) (sym (own_parts r.parts s.views me v at r.stand)) (view_is_of r.parts s.views me v at r.stand r.notes, r.right)

  -- so the view may conclude it
  pub does_sit : (n : ℕ) (s : Held E) (r : KeepsRule n s) (me : ℕ) (v : View E) → get_elem? s.views me ≡ some v → Sits v
  does_sit n s r me v at = let t = sits n s r me v at in record { parts = r.parts; is_of = t.0; right = t.1 }

  all_step : (x : Parts E) (views : List (View E)) (me : ℕ) (v w : View E) (locks : List ℕ) → get_elem? views me ≡ some v → Steps v w → AllStand x views → AllStand (laid w locks x) (set views me w)
  all_step x views me v w locks at st h = record {
    ids = subst (Stands id_key (put id_key x.ids w.id)) (sym (map-set id_of views me w)) (part_step id_key x.ids [] (map id_of views) me v.id w.id st.id (at_map id_of views me v at) h.ids);
    sessions = subst (λ (l : List (Option (SessionPart E)) × List (SessionPart E)). Stands session_key (put session_key x.sessions w.session) (map (λ (q : SessionPart E). Some q) l.1 ++ l.0))
        (λ i. (sym (map-set session_of views me w) i, same_closed x.store v.store w.store st.store (is_the x.store (map store_of views) me v.store (at_map store_of views me v at) h.store) st.closed i))
        (part_step session_key x.sessions (map (λ (q : SessionPart E). Some q) x.store.closed) (map session_of views) me v.session w.session st.session (at_map session_of views me v at) h.sessions);
    store = subst (λ (l : List (Option (StorePart E)) × List (StorePart E)). Stands only_key l.1 l.0) (λ i. (sym (map-set store_of views me w) i, only_put x.store w.store i))
        (part_step only_key (x.store ∷ []) [] (map store_of views) me v.store w.store st.store (at_map store_of views me v at) h.store);
    maker = subst (λ (l : List (Option _) × List _). Stands only_key l.1 l.0) (λ i. (sym (map-set maker_of views me w) i, only_put x.maker w.maker i))
        (part_step only_key (x.maker ∷ []) [] (map maker_of views) me v.maker w.maker st.maker (at_map maker_of views me v at) h.maker);
  }

  pub all_notes : (s t : StorePart E) (views : List (View E)) (me : ℕ) (w : View E) → ((a : NotePart E) → NoteFits s a → NoteFits t a) → NoteIsRight t w.note → NotesFit s (map note_of views) → NotesFit t (map note_of (set views me w))
  all_notes s t views me w grow own h = subst (NotesFit t) (sym (map-set note_of views me w))
      (λ i a e. ⊎_elim (λ (l : (i ≡ me) × (w.note ≡ Some a)). note_after t w.note a l.1 own) (λ r. grow a (h i a r.1)) (at_set (map note_of views) me i w.note (Some a) e))

  -- the seat has the view w now, and the words are others
  pub seat_step : (n : ℕ) (s : Held E) (r : KeepsRule n s) (word value me : ℕ) (carried : List (ℕ × Unit {0})) (v w : View E) (locks : List ℕ) → get_elem? s.views me ≡ some v → Steps v w
      → set s.words word value ≡ words_of (laid w locks r.parts) → length locks ≡ n → Keeps v w locks r.parts → KeepsRule n (stepped s word value me carried w keeps)
  seat_step n s r word value me carried v w locks at st words count k = record {
    parts = laid w locks r.parts;
    words = words;
    count = count;
    stand = all_step r.parts s.views me v w locks at st r.stand;
    notes = all_notes (owned v r.parts).store (laid w locks r.parts).store s.views me w k.notes k.note
        (subst (λ (y : Parts E). NotesFit y.store (map note_of s.views)) (sym (own_parts r.parts s.views me v at r.stand)) r.notes);
    right = k.right;
  }

  -- besides, the number of commits and the floor are the same
  pub record Quiet (v w : View E) : Type 0 where
    pub steps : Steps v w
    pub words : SameWords v.store w.store

  quiet_words : (n : ℕ) (s : Held E) (r : KeepsRule n s) (me : ℕ) (v w : View E) (locks : List ℕ) → get_elem? s.views me ≡ some v → Quiet v w
      → length r.parts.store.commits ∷ r.parts.store.floor ∷ length r.parts.ids ∷ length r.parts.sessions ∷ locks ≡ words_of (laid w locks r.parts)
  quiet_words n s r me v w locks at q =
      let x = r.parts in
      let same = same_words x.store v.store w.store q.steps.store (is_the x.store (map store_of s.views) me v.store (at_map store_of s.views me v at) r.stand.store) q.words in
      λ i. same.0 i ∷ same.1 i ∷ sym (put_length id_key x.ids w.id) i ∷ sym (put_length session_key x.sessions w.session) i ∷ locks

  -- the lock word k of the table
  pub lock_word : (n : ℕ) (s : Held E) (r : KeepsRule n s) (k : ℕ) → get_or s.words (k + FIRST_LOCK) 0 ≡ get_or r.parts.locks k 0
  lock_word n s r k = ap (λ (l : List ℕ). get_or l (k + FIRST_LOCK) 0) r.words ∙ lock_get _ _ _ _ k r.parts.locks

  -- the lock word k has another value now
  pub lock_step : (n : ℕ) (s : Held E) (r : KeepsRule n s) (k value me : ℕ) (carried : List (ℕ × Unit {0})) (v w : View E) → k < n → get_elem? s.views me ≡ some v → Quiet v w
      → LockShown v w k (get_or s.words (k + FIRST_LOCK) 0) value → KeepsRule n (stepped s (k + FIRST_LOCK) value me carried w keeps)
  lock_step n s r k value me carried v w inside at q shown =
      let t = sits n s r me v at in
      seat_step n s r (k + FIRST_LOCK) value me carried v w (set r.parts.locks k value) at q.steps
      (ap (λ (l : List ℕ). set l (k + FIRST_LOCK) value) r.words ∙ (lock_set _ _ _ _ k value r.parts.locks ∙ quiet_words n s r me v w (set r.parts.locks k value) at q))
      (length-set r.parts.locks k value ∙ r.count) (shown r.parts (subst (λ (m : ℕ). k < m) (sym r.count) inside) (sym (lock_word n s r k)) t.0 t.1)

  -- no word changes
  pub still_step : (n : ℕ) (s : Held E) (r : KeepsRule n s) (word me : ℕ) (carried : List (ℕ × Unit {0})) (v w : View E) → get_elem? s.views me ≡ some v → Quiet v w
      → Shown v w → KeepsRule n (stepped s word (get_or s.words word 0) me carried w keeps)
  still_step n s r word me carried v w at q shown =
      let t = sits n s r me v at in
      seat_step n s r word (get_or s.words word 0) me carried v w r.parts.locks at q.steps
      (set-get_or s.words word 0 ∙ (r.words ∙ quiet_words n s r me v w r.parts.locks at q)) r.count (shown r.parts t.0 t.1)
