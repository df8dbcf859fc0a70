-- The values that the rows of a parse hold of an id.
use Rattle.std.proofs.Common.{◌≡◌, ◌∙◌, Bool, cond, true, false, refl, sym, ap, ap₂, List, [], ◌∷◌, ◌++◌, map, Some, append-nil, true≢false}
use Rattle.std.specs.List.{find, filter}
use Rattle.std.specs.Option.{option_map, unwrap_or}
use Rattle.std.specs.Str.{bytes_eq}
use Rattle.std.proofs.lemmas.Bool.{false_from_ne_true}
use Rattle.std.proofs.lemmas.Slice.Eq.{bytes_eq-Decides}
use Rattle.clap.specs.Walk.{Row, all_of, at_row, more_values}
use Rattle.clap.specs.declared.parser.matches.ValueSource.TheVariants.{CommandLine}
use Rattle.spe_words.specs.Line.{Text}

abbrev pub values_at : Text → List Row → List Text
values_at id rows = unwrap_or (all_of id rows) []

abbrev pub Entry : Type 0
Entry = Text × Text

-- the values of an id among ids with values
abbrev pub values_in : Text → List Entry → List Text
values_in id entries = map (λ e. e.1) (filter (λ e. bytes_eq e.0 id) entries)

pub same : (a b : Text) → bytes_eq a b ≡ true → a ≡ b
same a b = (bytes_eq-Decides a b).0

pub itself : (a : Text) → bytes_eq a a ≡ true
itself a = (bytes_eq-Decides a a).1 refl

-- one more value of an id, as a use of its argument adds it
abbrev pub with_value : Text → Text → Row → List Row → List Row
with_value id value row = at_row id (more_values CommandLine (value ∷ [])) (row ∷ [])

-- a value joins the row of its id
joined : (b : Bool) (value : Text) (vs ws : List Text) → cond b (vs ++ value ∷ []) ws ≡ cond b vs ws ++ cond b (value ∷ []) []
joined true value vs ws = refl
joined false value vs ws = sym (append-nil ws)

-- another row stays as it is
stays : (b c : Bool) (value : Text) (vs ws : List Text) → (b ≡ true → c ≡ false) → cond b vs (ws ++ cond c (value ∷ []) []) ≡ cond b vs ws ++ cond c (value ∷ []) []
stays true c value vs ws other = rw (other refl) (sym (append-nil vs))
stays false c value vs ws other = refl

-- the row of an id, and then others
at_first : (x : Text) (r : Row) (rs : List Row) → values_at x (r ∷ rs) ≡ cond (bytes_eq r.id x) r.values (values_at x rs)
at_first x r rs = go (bytes_eq r.id x)
  where
    go : (b : Bool) → unwrap_or (option_map (λ (y : Row). y.values) (cond b (Some r) (find (λ y. bytes_eq y.id x) rs))) [] ≡ cond b r.values (values_at x rs)
    go true = refl
    go false = refl

-- a text is no other text
not_both : (a b x : Text) → bytes_eq a b ≡ false → bytes_eq a x ≡ true → bytes_eq b x ≡ false
not_both a b x differ e = false_from_ne_true (bytes_eq b x) (λ t. true≢false (sym ((bytes_eq-Decides a b).1 (same a x e ∙ sym (same b x t))) ∙ differ))

pub values_at-with_value : (id value : Text) (row : Row) → row.id ≡ id → row.values ≡ value ∷ [] → (x : Text) (rows : List Row)
    → values_at x (with_value id value row rows) ≡ values_at x rows ++ cond (bytes_eq id x) (value ∷ []) []
values_at-with_value id value row is holds x [] = at_first x row [] ∙ ap₂ (λ a (b : List Text). cond (bytes_eq a x) b []) is holds
values_at-with_value id value row is holds x (r ∷ rs) = go (bytes_eq r.id id) refl (values_at-with_value id value row is holds x rs)
  where
    go : (b : Bool) → bytes_eq r.id id ≡ b → values_at x (with_value id value row rs) ≡ values_at x rs ++ cond (bytes_eq id x) (value ∷ []) []
        → values_at x (cond b (more_values CommandLine (value ∷ []) r ++ rs) (r ∷ with_value id value row rs)) ≡ values_at x (r ∷ rs) ++ cond (bytes_eq id x) (value ∷ []) []
    go true e rest =
        let id_is : r.id ≡ id = same r.id id e in
        at_first x _ rs ∙ ap (λ t. cond (bytes_eq t x) (r.values ++ value ∷ []) (values_at x rs)) id_is ∙ joined (bytes_eq id x) value r.values (values_at x rs)
        ∙ ap (λ t. cond (bytes_eq t x) r.values (values_at x rs) ++ cond (bytes_eq id x) (value ∷ []) []) (sym id_is)
        ∙ ap (λ (vs : List Text). vs ++ cond (bytes_eq id x) (value ∷ []) []) (sym (at_first x r rs))
    go false e rest =
        at_first x r _ ∙ ap (λ vs. cond (bytes_eq r.id x) r.values vs) rest ∙ stays (bytes_eq r.id x) (bytes_eq id x) value r.values (values_at x rs) (not_both r.id id x e)
        ∙ ap (λ (vs : List Text). vs ++ cond (bytes_eq id x) (value ∷ []) []) (sym (at_first x r rs))
