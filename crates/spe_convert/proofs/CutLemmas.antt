-- Operations behind others, and what a stop within both leaves.
use Rattle.std.proofs.Common.{◌≡◌, ◌⊎◌, ◌∙◌, ℕ, List, [], ◌∷◌, ◌++◌, refl, ap, ⊎_elim, inl, inr}
use Rattle.spe_model.specs.declared.file.FileNo.TheVariants.{Database, Journal}
use Rattle.spe_model.specs.Content.{Content, bytes_of}
use Rattle.spe_model.specs.Covered.{Covered}
use Rattle.spe_model.specs.Header.{page_size_at}
use Rattle.spe_model.specs.Paging.{Paging}
use Rattle.spe_model.specs.Recovery.{file_page}
use Rattle.spe_model.specs.Trace.{IsCut, Operation, after, made_by}
use Rattle.spe_model.specs.Trace.Operation.{Cut}
use Rattle.spe_disk.specs.Told.{makings}
use Rattle.spe_crash.proofs.FileLemmas.{journal_leaves}
use Rattle.std.specs.Prelude.{take, drop, ◌-◌, ◌*◌}

pub covered_both : (content : Content) (xs ys : List Operation) → Covered content xs → Covered (after content xs) ys → Covered content (xs ++ ys)
covered_both content [] ys first rest = rest
covered_both content (x ∷ xs) ys first rest = (first.0, covered_both (made_by x content) xs ys first.1 rest)

-- a stop may leave none
pub none_cut : (ops : List Operation) → IsCut ops []
none_cut [] = tt
none_cut (o ∷ os) = tt

-- a beginning of the first ones is one of both
pub cut_longer : (xs ys cut : List Operation) → IsCut xs cut → IsCut (xs ++ ys) cut
cut_longer xs ys [] is = none_cut (xs ++ ys)
cut_longer [] ys (c ∷ cs) is = absurd is
cut_longer (x ∷ xs) ys (c ∷ cs) (inl whole) = inl (whole.0, cut_longer xs ys cs whole.1)
cut_longer (x ∷ xs) ys (c ∷ cs) (inr torn) = inr torn

-- so are all the first ones with a beginning of the others
pub cut_behind : (xs ys cut : List Operation) → IsCut ys cut → IsCut (xs ++ ys) (xs ++ cut)
cut_behind [] ys cut is = is
cut_behind (x ∷ xs) ys cut is = inl (refl, cut_behind xs ys cut is)

-- What a stop within both leaves: a beginning of the first ones, or all of them with a beginning of the others.
abbrev pub IsEither : (xs ys cut : List Operation) → Type 0
IsEither xs ys cut = IsCut xs cut ⊎ ((rest : List Operation) × (cut ≡ xs ++ rest) × IsCut ys rest)

pub cut_parts : (xs ys cut : List Operation) → IsCut (xs ++ ys) cut → IsEither xs ys cut
cut_parts xs ys [] is = inl (none_cut xs)
cut_parts [] ys (c ∷ cs) is = inr (c ∷ cs, refl, is)
cut_parts (x ∷ xs) ys (c ∷ cs) (inr torn) = inl (inr torn)
cut_parts (x ∷ xs) ys (c ∷ cs) (inl whole) = ⊎_elim
    (λ (short : IsCut xs cs). inl (inl (whole.0, short)))
    (λ (long : (rest : List Operation) × (cs ≡ xs ++ rest) × IsCut ys rest).
    inr (long.0, ap (λ (o : Operation). o ∷ cs) whole.0 ∙ ap (λ (os : List Operation). x ∷ os) long.1, long.2))
    (cut_parts xs ys cs whole.1)

-- journals that are made leave the file of the database
pub makings_leave : (numbers : List ℕ) (content : Content) → bytes_of (after content (makings numbers)) Database ≡ bytes_of content Database
makings_leave [] content = refl
makings_leave (n ∷ ns) content = makings_leave ns (made_by (Cut (Journal n) 0) content) ∙ journal_leaves content n _

-- and so its pages
pub pages_same : (content now : Content) → bytes_of now Database ≡ bytes_of content Database → file_page now ≡ file_page content
pages_same content now same =
    let pages : List ℕ → Paging = λ f p. take (page_size_at (take 100 f)) (drop ((p - 1) * page_size_at (take 100 f)) f) in
    ap pages same
