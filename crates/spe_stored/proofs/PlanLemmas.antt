-- Records gathered into a plan.
use Rattle.std.proofs.Common.{◌≡◌, ℕ, ◌+◌, ◌*◌, ◌<◌, List, [], ◌∷◌, ◌++◌, length, map, refl, sym, ap, ◌∙◌, Bool, true, false, cond}
use Rattle.std.specs.Prelude.{◌==◌, ◌&&◌, not, nat_le, filter}
use Rattle.std.proofs.Math.Nat.{div-eq_of_lt}
use Rattle.std.specs.List.{list_any}
use Rattle.std.proofs.lemmas.List.{append-nil}
use Rattle.spe_model.specs.declared.file.FileNo.TheVariants.{Database}
use Rattle.spe_model.specs.Content.{Content, bytes_of}
use Rattle.spe_model.specs.Recovery.{all_hot, file_page_size, ids}
use Rattle.spe_model.specs.Journal.{Saved}
use Rattle.spe_model.specs.Rollback.{any_length, cut_of, cuts_from, file_cut, firsts, has_length, restores, rule_of, without, write_of}
use Rattle.spe_model.specs.Trace.{Operation}
use Rattle.spe_journal.specs.Saved.{saved_in}
use Rattle.spe_stored.specs.declared.plan.Plan.{Plan}
use Rattle.spe_stored.specs.Plan.{Leaves, Plans, is_due, planned}
use Rattle.spe_stored.specs.Shown.{all_shown}

-- the first records of the same pages
firsts_same : (f g : ℕ → Bool) (saved : List Saved) → ((p : ℕ) → f p ≡ g p) → firsts f saved ≡ firsts g saved
firsts_same f g [] same = refl
firsts_same f g (s ∷ ss) same =
    rw (same s.page)
    (ap (λ (more : List Saved). cond (g s.page) (s ∷ more) (firsts f ss)) (firsts_same (without f s.page) (without g s.page) ss (λ p. ap (λ (b : Bool). b && not (s.page == p)) (same p)))
    ∙ ap (λ (more : List Saved). cond (g s.page) (s ∷ firsts (without g s.page) ss) more) (firsts_same f g ss same))

and_true : (b : Bool) → (b && true) ≡ b
and_true true = refl
and_true false = refl

-- none is left
pub none_left : (left saved : List Saved) (old now : Plan) → left ≡ [] → Leaves left saved old now → Plans saved old now
none_left left saved old now none leaves = record {
  size = leaves.size;
  pages = leaves.pages;
  adds = λ rest. ap (λ (l : List Saved). planned now (l ++ rest)) (sym none) ∙ leaves.adds rest;
}

pub short_none : (nonce page_size : ℕ) (bytes : List ℕ) → length bytes < page_size + 8 → saved_in nonce page_size bytes ≡ []
unfolding saved_in
short_none nonce page_size bytes short = rw (div-eq_of_lt short) refl

-- the rule, from the records of all journals
pub rule_is : (content : Content) (pages size end : ℕ) (first last : Plan) (cut all : List Operation) → list_any (has_length content) ids ≡ true
    → first.page_size ≡ file_page_size content → first.pages ≡ pages → first.ops.items ≡ [] → first.done.keys ≡ [] → Plans (all_hot content) first last
    → cut ≡ all_shown last.ops.items ++ file_cut size end → all ≡ cut ++ map cut_of (filter (has_length content) ids)
    → size ≡ length (bytes_of content Database) → end ≡ pages * file_page_size content → all ≡ rule_of content pages
unfolding any_length cuts_from rule_of
rule_is content pages size end first last cut all some sized counted none clean plans c a s e =
    let hot : List Saved = all_hot content in
    let due : (p : ℕ) → is_due first p ≡ nat_le p pages = λ p. rw (clean, counted) (and_true (nat_le p pages)) in
    let start : planned first (hot ++ []) ≡ restores (file_page_size content) (λ p. nat_le p pages) hot =
    ap (planned first) (append-nil hot) ∙ rw (ap all_shown none, sized) (ap (map (write_of (file_page_size content))) (firsts_same (is_due first) (λ p. nat_le p pages) hot due)) in
    let made : all_shown last.ops.items ≡ restores (file_page_size content) (λ p. nat_le p pages) hot = sym (append-nil (all_shown last.ops.items)) ∙ plans.adds [] ∙ start in
    rw (some, a, c, made, s, e) refl
