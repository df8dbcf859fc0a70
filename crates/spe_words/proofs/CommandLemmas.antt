-- From what is found to commands.
use Rattle.std.proofs.Common.{◌≡◌, ◌≢◌, ◌∙◌, ◌<◌, ◌-◌, ◌==◌, ◌||◌, ℕ, Bool, true, false, refl, sym, ap, ap₂, subst, codes, List, [], ◌∷◌, ◌++◌, length, take, drop, arith, inl, inr, true≢false, append_assoc, append-nil, All, Option, Some, None, IfNone, Result, Ok, Err, IfOk}
use Rattle.std.specs.List.{Contains, slice_index_or}
use Rattle.std.specs.Char.{digit_value}
use Rattle.std.specs.Str.Parse.{IsNumeral, digits_value}
use Rattle.std.specs.Borrow.{Bor}
use Rattle.std.specs.Str.{IsUtf8, bytes_eq}
use Rattle.std.proofs.lemmas.List.{map-append, take_all}
use Rattle.std.proofs.lemmas.List.Elements.{All-cons, All-nil, All-push}
use Rattle.std.proofs.lemmas.Bool.{eqb-true, false_from_ne_true}
use Rattle.std.proofs.lemmas.Slice.Eq.{bytes_eq-Decides}
use Rattle.clap.specs.Walk.{texts}
use Rattle.clap.specs.declared.parser.matches.ArgMatches.{ArgMatches}
use Rattle.spe_words.specs.Found.{FindsCommand, ShowsLines, FindsLine, IsAsked, IsOf, IsSpelledBy, found_values, kind_options, kind_word}
use Rattle.spe_words.specs.Grammar.{AreSettings, AskFor, IsFor, IsSetting, command_word, options_of, run_options}
use Rattle.spe_words.specs.Line.{Spells, Text, begins_with_dash, is_among}
use Rattle.spe_words.specs.declared.command.Command.{Command}
use Rattle.spe_words.specs.declared.command.Command.TheVariants.{Rows, Check, Prepare, Release, Run, Work}
use Rattle.spe_words.specs.declared.command.WordsFault.{WordsFault}
use Rattle.spe_words.specs.declared.command.WordsFault.TheVariants as fault
use Rattle.spe_words.specs.declared.kind.Kind.{Kind}
use Rattle.spe_words.specs.declared.kind.Kind.TheVariants as kind
use Rattle.spe_words.proofs.RowsLemmas.{same}

-- ---- loops over words

module _ (items next : List (Bor Text)) (left words : List Text) (t : Bor Text) (d : Text) where
  pub texts_turn : (texts items ++ left ≡ words) × All IsUtf8 (texts items) × All (λ w. w ≢ []) (texts items) → 0 < length left → t.now ≡ slice_index_or left 0 d
      → IsUtf8 t.now → t.now ≢ [] → next ≡ items ++ t ∷ []
      → (texts next ++ take (length left - 1) (drop 1 left) ≡ words) × All IsUtf8 (texts next) × All (λ w. w ≢ []) (texts next)
  texts_turn inv lt at utf8 full e = go left lt at inv.0
    where
      more : texts next ≡ texts items ++ t.now ∷ []
      more = ap texts e ∙ map-append (λ (s : Bor Text). s.now) items (t ∷ [])

      go : (left : List Text) → 0 < length left → t.now ≡ slice_index_or left 0 d → texts items ++ left ≡ words
          → (texts next ++ take (length left - 1) (drop 1 left) ≡ words) × All IsUtf8 (texts next) × All (λ w. w ≢ []) (texts next)
      go [] lt at first = absurd (omega arith)
      go (x ∷ xs) lt at first = (
        ap₂ (λ (l r : List Text). l ++ r) more (take_all (length (x ∷ xs) - 1) xs (omega arith)) ∙ append_assoc (texts items) (t.now ∷ []) xs
            ∙ ap (λ w. texts items ++ w ∷ xs) at ∙ first,
        subst (All IsUtf8) (sym more) (All-push IsUtf8 (texts items) t.now inv.1 utf8),
        subst (All (λ w. w ≢ [])) (sym more) (All-push (λ w. w ≢ []) (texts items) t.now inv.2 full),
      )

nothing_left : {X : Type 0} (left : List X) → length left < 1 → left ≡ []
nothing_left [] lt = refl
nothing_left (x ∷ xs) lt = absurd (omega arith)

pub texts_end : (found left words : List Text) → found ++ left ≡ words → length left < 1 → All IsUtf8 found → All IsUtf8 words
texts_end found left words e lt all = subst (All IsUtf8) (sym (append-nil found) ∙ ap (λ l. found ++ l) (sym (nothing_left left lt)) ∙ e) all

pub names_turn : (found next all : List Text) (left : List (Bor Text)) (t : Text) (d : Bor Text) → found ++ texts left ≡ all → 0 < length left → t ≡ (slice_index_or left 0 d).now
    → next ≡ found ++ t ∷ [] → next ++ texts (take (length left - 1) (drop 1 left)) ≡ all
names_turn found next all [] t d is lt at e = absurd (omega arith)
names_turn found next all (x ∷ xs) t d is lt at e =
    ap₂ (λ (l r : List Text). l ++ r) e (ap texts (take_all (length (x ∷ xs) - 1) xs (omega arith))) ∙ append_assoc found (t ∷ []) (texts xs)
    ∙ ap (λ w. found ++ w ∷ texts xs) at ∙ is

pub names_end : (found all : List Text) (left : List (Bor Text)) → found ++ texts left ≡ all → length left < 1 → found ≡ all
names_end found all left is lt = sym (append-nil found) ∙ ap (λ l. found ++ texts l) (sym (nothing_left left lt)) ∙ is

-- ---- what a command has

differ : (a b : Text) → bytes_eq a b ≡ false → a ≡ b → ⊥
differ a b f e = true≢false (sym ((bytes_eq-Decides a b).1 e) ∙ f)

pub any_none : {X : Type 0} (o : Option X) {P : Type 0} → P → IfNone o P
any_none (Some x) p = tt
any_none None p = p

-- an option gives one number
empty≢one : (x : Text) → [] ≡ x ∷ [] → ⊥
empty≢one x e = absurd (omega (arith, ap length e))

setting_is : (default least most : ℕ) (vs : List Text) (m n : ℕ) → IsSetting default least most vs m → IsSetting default least most vs n → m ≡ n
setting_is default least most vs m n (inl a) (inl b) = a.1 ∙ sym b.1
setting_is default least most vs m n (inl a) (inr b) = absurd (empty≢one _ (sym a.0 ∙ b.1))
setting_is default least most vs m n (inr a) (inl b) = absurd (empty≢one _ (sym b.0 ∙ a.1))
setting_is default least most vs m n (inr a) (inr b) = a.2.value ∙ ap (λ l. digits_value 10 (slice_index_or l 0 [])) (sym a.1 ∙ b.1) ∙ sym b.2.value

-- the settings by other values that are the same
same_settings : (f g : Text → List Text) (threads tries locks : ℕ) → ((name : Text) → is_among run_options name ≡ true → f name ≡ g name)
    → AreSettings f threads tries locks → AreSettings g threads tries locks
same_settings f g threads tries locks e s = record {
  workers = subst (λ vs. IsSetting 4 1 16 vs threads) (e (codes "workers") refl) s.workers;
  retries = subst (λ vs. IsSetting 1000 0 1000000 vs tries) (e (codes "retries") refl) s.retries;
  slots = subst (λ vs. IsSetting 262144 16 262144 vs locks) (e (codes "slots") refl) s.slots;
  power = s.power;
}

-- a number does not begin with `-`
number_plain : (text : Text) → IsNumeral 10 text → begins_with_dash text ≡ false
number_plain [] is = refl
number_plain (b ∷ bs) is = false_from_ne_true (b == 45) (λ t. absurd (no_digit (subst (λ d. digit_value d < 10) (eqb-true b 45 t) is.1.0)))
  where
    no_digit : 36 < 10 → ⊥
    no_digit lt = absurd (omega arith)

setting_plain : (default least most : ℕ) (vs : List Text) (n : ℕ) → IsSetting default least most vs n → All (λ v. begins_with_dash v ≡ false) vs
setting_plain default least most vs n (inl a) = subst (All (λ v. begins_with_dash v ≡ false)) (sym a.0) (All-nil (λ v. begins_with_dash v ≡ false))
setting_plain default least most vs n (inr a) =
    subst (All (λ v. begins_with_dash v ≡ false)) (sym a.1)
    (All-cons (λ v. begins_with_dash v ≡ false) a.0 [] (number_plain a.0 a.2.digits) (All-nil (λ v. begins_with_dash v ≡ false)))

abbrev IsPlain : (Text → List Text) → Text → Type 0
IsPlain f name = All (λ v. begins_with_dash v ≡ false) (f name)

settings_plain : (f : Text → List Text) (threads tries locks : ℕ) → AreSettings f threads tries locks → (name : Text) → is_among run_options name ≡ true → IsPlain f name
settings_plain f threads tries locks s name among = workers (bytes_eq (codes "workers") name) refl among
  where
    slots : (b : Bool) → bytes_eq (codes "slots") name ≡ b → (b || false) ≡ true → IsPlain f name
    slots true e among = subst (IsPlain f) (same (codes "slots") name e) (setting_plain _ _ _ _ _ s.slots)
    slots false e among = absurd (true≢false (sym among))

    retries : (b : Bool) → bytes_eq (codes "retries") name ≡ b → (b || (bytes_eq (codes "slots") name || false)) ≡ true → IsPlain f name
    retries true e among = subst (IsPlain f) (same (codes "retries") name e) (setting_plain _ _ _ _ _ s.retries)
    retries false e among = slots (bytes_eq (codes "slots") name) refl among

    workers : (b : Bool) → bytes_eq (codes "workers") name ≡ b → (b || (bytes_eq (codes "retries") name || (bytes_eq (codes "slots") name || false))) ≡ true → IsPlain f name
    workers true e among = subst (IsPlain f) (same (codes "workers") name e) (setting_plain _ _ _ _ _ s.workers)
    workers false e among = retries (bytes_eq (codes "retries") name) refl among

-- what a command has, by other positionals and values that are the same
same_for : (c : Command) (ps qs : List Text) (f g : Text → List Text) → ps ≡ qs → ((name : Text) → is_among (options_of c) name ≡ true → f name ≡ g name)
    → IsFor c ps f → IsFor c qs g
same_for (Rows db table) ps qs f g e h is = sym e ∙ is
same_for (Check db) ps qs f g e h is = sym e ∙ is
same_for (Prepare db lists) ps qs f g e h is = (is.0, sym e ∙ is.1, is.2)
same_for (Release db) ps qs f g e h is = sym e ∙ is
same_for (Run db scripts workers retries slots) ps qs f g e h is = (sym e ∙ is.0, is.1, is.2, same_settings f g workers retries slots h is.3)
same_for (Work db seed count) ps qs f g e h is = (is.0, (is.1.0, sym e ∙ is.1.1, is.1.2, is.1.3))

-- the values of a command's options do not begin with `-`
for_plain : (c : Command) (ps : List Text) (f : Text → List Text) → IsFor c ps f → (name : Text) → is_among (options_of c) name ≡ true → IsPlain f name
for_plain (Rows db table) ps f is name among = absurd (true≢false (sym among))
for_plain (Check db) ps f is name among = absurd (true≢false (sym among))
for_plain (Prepare db lists) ps f is name among = absurd (true≢false (sym among))
for_plain (Release db) ps f is name among = absurd (true≢false (sym among))
for_plain (Run db scripts workers retries slots) ps f is name among = settings_plain f workers retries slots is.3 name among
for_plain (Work db seed count) ps f is name among = absurd (true≢false (sym among))

-- the options of a command are those of its kind
options_by : (k : Kind) (c : Command) → command_word c ≡ kind_word k → options_of c ≡ kind_options k
options_by kind.Rows (Rows db table) e = refl
options_by kind.Rows (Check db) e = refl
options_by kind.Rows (Prepare db lists) e = refl
options_by kind.Rows (Release db) e = refl
options_by kind.Rows (Run db scripts workers retries slots) e = absurd (differ _ _ refl e)
options_by kind.Rows (Work db seed count) e = refl
options_by kind.Check (Rows db table) e = refl
options_by kind.Check (Check db) e = refl
options_by kind.Check (Prepare db lists) e = refl
options_by kind.Check (Release db) e = refl
options_by kind.Check (Run db scripts workers retries slots) e = absurd (differ _ _ refl e)
options_by kind.Check (Work db seed count) e = refl
options_by kind.Prepare (Rows db table) e = refl
options_by kind.Prepare (Check db) e = refl
options_by kind.Prepare (Prepare db lists) e = refl
options_by kind.Prepare (Release db) e = refl
options_by kind.Prepare (Run db scripts workers retries slots) e = absurd (differ _ _ refl e)
options_by kind.Prepare (Work db seed count) e = refl
options_by kind.Release (Rows db table) e = refl
options_by kind.Release (Check db) e = refl
options_by kind.Release (Prepare db lists) e = refl
options_by kind.Release (Release db) e = refl
options_by kind.Release (Run db scripts workers retries slots) e = absurd (differ _ _ refl e)
options_by kind.Release (Work db seed count) e = refl
options_by kind.Run (Rows db table) e = absurd (differ _ _ refl e)
options_by kind.Run (Check db) e = absurd (differ _ _ refl e)
options_by kind.Run (Prepare db lists) e = absurd (differ _ _ refl e)
options_by kind.Run (Release db) e = absurd (differ _ _ refl e)
options_by kind.Run (Run db scripts workers retries slots) e = refl
options_by kind.Run (Work db seed count) e = absurd (differ _ _ refl e)
options_by kind.Work (Rows db table) e = refl
options_by kind.Work (Check db) e = refl
options_by kind.Work (Prepare db lists) e = refl
options_by kind.Work (Release db) e = refl
options_by kind.Work (Run db scripts workers retries slots) e = absurd (differ _ _ refl e)
options_by kind.Work (Work db seed count) e = refl

-- `run` wants settings
pub no_settings : (m : ArgMatches) → ((threads tries locks : ℕ) → ¬ AreSettings (found_values m) threads tries locks) → (c : Command) → ¬ IsOf (codes "run") m c
no_settings m none (Rows db table) s = differ _ _ refl s.0
no_settings m none (Check db) s = differ _ _ refl s.0
no_settings m none (Prepare db lists) s = differ _ _ refl s.0
no_settings m none (Release db) s = differ _ _ refl s.0
no_settings m none (Run db scripts workers retries slots) s = none workers retries slots s.1.3
no_settings m none (Work db seed count) s = differ _ _ refl s.0

-- ---- from what is found to the words

answers_as : (P Q : Command → Type 0) → ((c : Command) → P c → Q c) → ((c : Command) → Q c → P c) → (r : Result Command WordsFault) → FindsCommand P r → FindsCommand Q r
answers_as P Q to from (Ok c) a = (to c a.0, λ d q. a.1 d (from d q))
answers_as P Q to from (Err fault.Words) a = λ c q. a c (from c q)
answers_as P Q to from (Err fault.Memory) a = tt

module _ (k : Kind) (rest : List Text) where
  module _ (m : ArgMatches) (finds : ShowsLines (kind_options k) rest m) where
    of_spelled : (c : Command) → IsSpelledBy (kind_word k) rest c → IsOf (kind_word k) m c
    of_spelled c s =
        let e = options_by k c s.0 in
        let shown = finds.each s.1.0 (subst (λ names. Spells names rest s.1.0) e s.1.1) in
        (s.0, same_for c _ _ _ _ (sym shown.0) (λ name among. sym (shown.1 name (ap (λ names. is_among names name) (sym e) ∙ among))) s.1.2)

    spelled_of : (c : Command) → IsOf (kind_word k) m c → IsSpelledBy (kind_word k) rest c
    spelled_of c s =
        let e = options_by k c s.0 in
        let l = finds.one (λ name among. for_plain c _ (found_values m) s.1 name (ap (λ names. is_among names name) e ∙ among)) in
        let shown = finds.each l.0 l.1 in
        (s.0, (l.0, subst (λ names. Spells names rest l.0) (sym e) l.1, same_for c _ _ _ _ shown.0 (λ name among. shown.1 name (ap (λ names. is_among names name) (sym e) ∙ among)) s.1))

    pub spelled_answer : (r : Result Command WordsFault) → FindsCommand (IsOf (kind_word k) m) r → FindsCommand (IsSpelledBy (kind_word k) rest) r
    spelled_answer r a = answers_as _ _ spelled_of of_spelled r a

  pub no_line : (f : WordsFault) → FindsLine (kind_options k) rest (Err f) → FindsCommand (IsSpelledBy (kind_word k) rest) (Err f)
  no_line fault.Words none = λ c s. none s.1.0 (subst (λ names. Spells names rest s.1.0) (options_by k c s.0) s.1.1)
  no_line fault.Memory none = tt

-- the same, where the options and the kind are named otherwise
pub kind_answer : (k : Kind) (names rest : List Text) (word : Text) (m : ArgMatches) (r : Result Command WordsFault) → names ≡ kind_options k → ShowsLines names rest m
    → kind_word k ≡ word → FindsCommand (IsOf word m) r → FindsCommand (IsSpelledBy (kind_word k) rest) r
kind_answer k names rest word m r e finds w a =
    spelled_answer k rest m (subst (λ n. ShowsLines n rest m) e finds) r (subst (λ t. FindsCommand (IsOf t m) r) (sym w) a)

pub kind_refused : (k : Kind) (names rest : List Text) (f : WordsFault) → names ≡ kind_options k → FindsLine names rest (Err f)
    → FindsCommand (IsSpelledBy (kind_word k) rest) (Err f)
kind_refused k names rest f e none = no_line k rest f (subst (λ n. FindsLine n rest (Err f)) e none)

-- ---- the command word

module _ (word : Text) (rest : List Text) where
  spelled_asked : (c : Command) → IsSpelledBy word rest c → IsAsked (word ∷ rest) c
  spelled_asked c s = (rest, ap (λ w. w ∷ rest) (sym s.0), s.1)

  asked_spelled : (c : Command) → IsAsked (word ∷ rest) c → IsSpelledBy word rest c
  asked_spelled c a = (
    sym (ap (λ l. slice_index_or l 0 word) a.1),
    (a.2.0, subst (λ ws. Spells (options_of c) ws a.2.0) (sym (ap (drop 1) a.1)) a.2.1, a.2.2),
  )

-- the command of words that begin with a command word
pub asked_by : (words : List (Bor Text)) (word : Text) (w : Bor Text) (r : Result Command WordsFault) → 0 < length words → word ≡ (slice_index_or words 0 w).now
    → FindsCommand (IsSpelledBy word (drop 1 (texts words))) r → FindsCommand (IsAsked (texts words)) r
asked_by [] word w r lt e a = absurd (omega arith)
asked_by (x ∷ rest) word w r lt e a =
    subst (λ t. FindsCommand (IsAsked (t ∷ texts rest)) r) e
    (answers_as (IsSpelledBy word (texts rest)) (IsAsked (word ∷ texts rest)) (spelled_asked word (texts rest)) (asked_spelled word (texts rest)) r a)

kind_of_word : (c : Command) → (k : Kind) × (kind_word k ≡ command_word c)
kind_of_word (Rows db table) = (kind.Rows, refl)
kind_of_word (Check db) = (kind.Check, refl)
kind_of_word (Prepare db lists) = (kind.Prepare, refl)
kind_of_word (Release db) = (kind.Release, refl)
kind_of_word (Run db scripts workers retries slots) = (kind.Run, refl)
kind_of_word (Work db seed count) = (kind.Work, refl)

-- another word is no command word
pub unknown_word : (words : List (Bor Text)) (w : Bor Text) → 0 < length words → ((k : Kind) → kind_word k ≢ (slice_index_or words 0 w).now) → (c : Command) → ¬ IsAsked (texts words) c
unknown_word [] w lt none c a = absurd (omega arith)
unknown_word (x ∷ rest) w lt none c a = let k = kind_of_word c in none k.0 (k.1 ∙ sym (ap (λ l. slice_index_or l 0 x.now) a.1))

-- ---- all words

asked_for : (words : List Text) → ¬ Contains words [] → (c : Command) → IsAsked words c → AskFor words c
asked_for words full c a = record { rest = a.0; are = a.1; no_empty = full; line = a.2.0; spells = a.2.1; asked = a.2.2 }

for_asked : (words : List Text) → (c : Command) → AskFor words c → IsAsked words c
for_asked words c a = (a.rest, a.are, (a.line, a.spells, a.asked))

pub one_command : (P : Command → Type 0) (r : Result Command WordsFault) → FindsCommand P r → IfOk r (λ c. (d : Command) → P d → d ≡ c)
one_command P (Ok c) a = a.1
one_command P (Err f) a = tt

abbrev is_words : Result Command WordsFault → Bool
is_words (Err fault.Words) = true
is_words _ = false

pub no_command : (P : Command → Type 0) (r : Result Command WordsFault) → FindsCommand P r → r ≡ Err fault.Words → (c : Command) → ¬ P c
no_command P (Ok c) a e = absurd (true≢false (sym (ap is_words e)))
no_command P (Err fault.Words) a e = a
no_command P (Err fault.Memory) a e = absurd (true≢false (sym (ap is_words e)))

pub words_answer : (found words : List Text) (r : Result Command WordsFault) → found ≡ words → ¬ Contains words [] → FindsCommand (IsAsked found) r → FindsCommand (AskFor words) r
words_answer found words r e full a =
    answers_as (IsAsked words) (AskFor words) (asked_for words full) (for_asked words) r (subst (λ ws. FindsCommand (IsAsked ws) r) e a)
