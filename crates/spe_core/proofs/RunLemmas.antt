-- A run of events, step by step.
use Rattle.std.proofs.Common.{◌≡◌, ℕ, zero, suc, ◌+◌, ◌-◌, ◌≤◌, List, [], ◌∷◌, ◌++◌, length, take, drop, get_or, refl, sym, ap, ◌∙◌, arith}
use Rattle.std.proofs.Math.Seq.{take-length}
use Rattle.spe_core.specs.declared.event.Event.{Event}
use Rattle.spe_core.specs.declared.event.Answer.{Answer}
use Rattle.spe_core.specs.declared.event.Answer.TheVariants.{Done, Refused}
use Rattle.spe_core.specs.Changing.{answer_of, count_done, done_count}
use Rattle.spe_core.specs.Serial.{after_events, next}
use Rattle.spe_core.specs.State.{State}

-- some first events of a run were stepped, so many of them done, and these are left
pub record AreRun (first now : State) (all left : List Event) (done : ℕ) : Type 0 where
  pub state : after_events now left ≡ after_events first all
  pub count : done + done_count now left ≡ done_count first all
  pub few : done + length left ≤ length all
  pub some : (n : ℕ) × (left ≡ drop n all) × (now ≡ after_events first (take n all))

pub first_run : (s : State) (all : List Event) → AreRun s s all all 0
first_run s all = record { state = refl; count = omega arith; few = omega arith; some = (0, refl, refl) }

after_one_more : (s : State) (es : List Event) (e : Event) → after_events s (es ++ e ∷ []) ≡ next (after_events s es) e
after_one_more s [] e = refl
after_one_more s (x ∷ es) e = after_one_more (next s x) es e

cut_at : (all rest : List Event) (e : Event) (n : ℕ) → e ∷ rest ≡ drop n all → (rest ≡ drop (suc n) all) × (take (suc n) all ≡ take n all ++ e ∷ [])
cut_at [] rest e zero is = absurd cc
cut_at [] rest e (suc n) is = absurd cc
cut_at (x ∷ all) rest e zero is = (cc, let same : x ≡ e = cc in ap (λ (y : Event). y ∷ []) same)
cut_at (x ∷ all) rest e (suc n) is = let tail = cut_at all rest e n is in (tail.0, ap (λ (l : List Event). x ∷ l) tail.1)

few_done : (answer : Answer) → count_done answer ≤ 1
few_done Done = omega arith
few_done Refused = omega arith

-- a list that is not empty
pub front_item : (es : List Event) (e : Event) → 1 ≤ length es → e ≡ get_or es 0 e → es ≡ e ∷ take (length es - 1) (drop 1 es)
front_item [] e some is = absurd (omega arith)
front_item (x ∷ es) e some is =
    let size : length (x ∷ es) - 1 ≡ length es = omega arith in
    let whole : take (length (x ∷ es) - 1) es ≡ es = ap (λ (n : ℕ). take n es) size ∙ take-length es in
    ap (λ (y : Event). y ∷ es) (sym is) ∙ ap (λ (l : List Event). e ∷ l) (sym whole)

-- one more event is stepped
pub next_run : (first now new : State) (all left rest : List Event) (e : Event) (done more : ℕ) → left ≡ e ∷ rest → new ≡ next now e → more ≡ count_done (answer_of now e)
    → AreRun first now all left done → AreRun first new all rest (done + more)
next_run first now new all left rest e done more parts is counted run =
    let n = run.some.0 in
    let cut = cut_at all rest e n (sym parts ∙ run.some.1) in
    let one : count_done (answer_of now e) ≤ 1 = few_done (answer_of now e) in
    let size : length left ≡ length rest + 1 = ap length parts ∙ omega arith in
    record {
      state = ap (λ (s : State). after_events s rest) is ∙ ap (after_events now) (sym parts) ∙ run.state;
      count =
          let step : done_count now left ≡ count_done (answer_of now e) + done_count (next now e) rest = ap (done_count now) parts in
          let same : done_count new rest ≡ done_count (next now e) rest = ap (λ (s : State). done_count s rest) is in
          omega (arith, run.count);
      few = omega (arith, run.few);
      some = (suc n, cut.0, is ∙ ap (λ (s : State). next s e) run.some.2 ∙ sym (after_one_more first (take n all) e) ∙ ap (after_events first) (sym cut.1));
    }
