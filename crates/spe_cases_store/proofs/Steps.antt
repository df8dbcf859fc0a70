-- What is so of the only transaction in a store.
use Rattle.std.proofs.Common.{◌≡◌, ℕ, List, [], ◌∷◌, refl, sym, ap, ◌∙◌, arith, true, false, Option, Some, None, ⊎_elim}
use Rattle.std.specs.Prelude.{◌==◌}
use Rattle.std.specs.Option.{option_map}
use Rattle.std.proofs.lemmas.Bool.{cases_Bool, eq-eqb}
use Rattle.spe_model.specs.Trace.{History}
use Rattle.spe_transactions.specs.Work.{has_page}
use Rattle.spe_store.specs.declared.log.Log.{Log}
use Rattle.spe_store.specs.Call.{HasJournalled, HasSaved, IsAgain, LeavesSeen, MayJournal}
use Rattle.spe_store.specs.Event.{Event, journalled_in, lives_in, open_in, seen_in, written_in}
use Rattle.spe_store.specs.Event.Event.{Begun, Committed, Dropped, Journalled, Opened, Written}
use Rattle.spe_store.specs.Opened.{Opened as Opening}
use Rattle.spe_store.specs.Pass.{Pass}
use Rattle.spe_store.specs.Store.{IfTold, Store}

abbrev pub opened : ℕ → List Event
opened id = Opened id ∷ Begun id ∷ []

abbrev pub saved : ℕ → List ℕ → List Event
saved id old = Journalled id 2 old ∷ opened id

abbrev pub changed : ℕ → List ℕ → List ℕ → List Event
changed id old new = Written id 2 new ∷ saved id old

pub shut : (s : Store) (id : ℕ) → s.events ≡ Begun id ∷ [] → open_in s.events id ≡ false
shut s id is = ap (λ (es : List Event). open_in es id) is

pub opens : (s : Store) (id : ℕ) → s.events ≡ opened id → open_in s.events id ≡ true
opens s id is = ap (λ (es : List Event). open_in es id) is ∙ rw (eq-eqb id id refl) refl

none_saved : (id i : ℕ) → has_page (journalled_in (opened id)) i 2 ≡ false
none_saved id i = ⊎_elim (λ (own : (i == id) ≡ true). rw own refl) (λ (other : (i == id) ≡ false). rw other refl) (cases_Bool (i == id))

none_put : (id i : ℕ) → has_page (written_in (opened id)) i 2 ≡ false
none_put id i = ⊎_elim (λ (own : (i == id) ≡ true). rw own refl) (λ (other : (i == id) ≡ false). rw other refl) (cases_Bool (i == id))

pub may_journal : (s : Store) (id : ℕ) → s.events ≡ opened id → s.count ≡ 3 → MayJournal s id 2
may_journal s id is counted = record {
  low = omega arith;
  high = omega (arith, counted);
  others = λ i other. ap (λ (es : List Event). has_page (journalled_in es) i 2) is ∙ none_saved id i;
  fresh = λ lacks. ap (λ (es : List Event). has_page (written_in es) id 2) is ∙ none_put id id;
}

pub record IsSaved (s : Store) (id count size : ℕ) : Type 0 where
  pub old : List ℕ
  pub events : s.events ≡ saved id old
  pub counted : s.count ≡ count
  pub sized : s.page_size ≡ size

pub is_saved : (o : Opening) (old new : Store) (before now : Pass) → HasJournalled o old new before now 2 → old.events ≡ opened before.id → IsSaved new before.id old.count old.page_size
is_saved o old new before now has is = ⊎_elim
    (λ (again : IsAgain old new before now 2). absurd (let both : false ≡ true = sym (none_saved before.id before.id) ∙ sym (ap (λ (es : List Event). has_page (journalled_in es) before.id 2) is) ∙ again.has in cc))
    (λ (one : HasSaved o old new before now 2).
    record { old = one.bytes; events = one.done.events ∙ ap (λ (es : List Event). Journalled before.id 2 one.bytes ∷ es) is; counted = one.done.counted; sized = one.done.sized })
    has

pub has_two : (s : Store) (id : ℕ) (old : List ℕ) → s.events ≡ saved id old → has_page (journalled_in s.events) id 2 ≡ true
has_two s id old is = ap (λ (es : List Event). has_page (journalled_in es) id 2) is ∙ rw (eq-eqb id id refl) refl

pub lives : (s : Store) (id : ℕ) (old new : List ℕ) → s.events ≡ changed id old new → lives_in s.events id ≡ true
lives s id old new is = ap (λ (es : List Event). lives_in es id) is ∙ rw (eq-eqb id id refl) refl

pub leaves_seen : (s : Store) (id : ℕ) (old new : List ℕ) → s.events ≡ changed id old new → LeavesSeen s id
leaves_seen s id old new is i p other has =
    ap (λ (es : List Event). seen_in es i p) is ∙ ⊎_elim (λ (own : (i == id) ≡ true). rw own refl) (λ (apart : (i == id) ≡ false). rw apart refl) (cases_Bool (i == id))

-- nothing is asked where nothing is told
pub untold : (told : Option History) (P : History → Type 0) → option_map (λ (h : History). h.first) told ≡ None → IfTold told P
untold None P none = tt
untold (Some h) P none = absurd cc

pub over : (s : Store) (id session ops : ℕ) (log : Log) (es : List Event) → s.events ≡ Committed id session ops log ∷ es → open_in s.events id ≡ false
over s id session ops log es is = ap (λ (l : List Event). open_in l id) is ∙ rw (eq-eqb id id refl) refl

pub dropped : (s : Store) (id : ℕ) (es : List Event) → s.events ≡ Dropped id ∷ es → open_in s.events id ≡ false
dropped s id es is = ap (λ (l : List Event). open_in l id) is ∙ rw (eq-eqb id id refl) refl

-- an id that was free has no journal that is open once it has begun
pub begun_shut : (s : Store) (id : ℕ) (es : List Event) → open_in es id ≡ false → s.events ≡ Begun id ∷ es → open_in s.events id ≡ false
begun_shut s id es free is = ap (λ (l : List Event). open_in l id) is ∙ free
