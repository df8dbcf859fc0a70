use Rattle.std.proofs.Common.{rules, ap, ◌∙◌, ◌≡◌, ◌≤◌, ◌+◌, ◌++◌, length, take, drop, [], ℕ, List, unwrap_or, min, arith, length-drop}
use Rattle.std.proofs.lemmas.List.{take_min}
use Rattle.spe_model.specs.Trace.{laid_over}
use Rattle.spe_stored.specs.Stored.{bytes_if}
use Rattle.spe_stored.proofs.LaidLemmas.{bytes_held}
use Rattle.spe_stored.proofs.KeptLemmas.{laid_back, same_back, fits_back, fits_same}
use Rattle.spe_stored.proofs.stored.Stored.keep.Goals as goal

pub returns : goal.returns
returns c =
    let old : List ℕ = c.self.inside.bytes.items in
    let there = c.self.inside.there in
    let saved : List ℕ = c.in_ok-from_slice.field-0.items in
    let from : ℕ = c.min-at.result in
    let held : unwrap_or c.args.self.now [] ≡ old = search (rules, bytes_held there old c.self.invariant) in
    let size : length old ≡ c.len-size.result = search rules in
    let low : from ≡ min c.args.at (length old) = grind arith in
    let within : from ≤ length old = omega arith in
    let count : c.min.result ≡ min c.args.count (length (drop from old)) = grind (arith, length-drop from old) in
    let copied : saved ≡ take c.min.result (drop from old) = grind arith in
    let kept : saved ≡ take c.args.count (drop from old) = copied ∙ ap (λ (n : ℕ). take n (drop from old)) count ∙ take_min c.args.count (drop from old) in
    let back : (now : List ℕ) → take (length old) (take from now ++ saved ++ drop (from + length saved) now) ≡ old → bytes_if there (take c.len-size.result (take from now ++ saved ++ drop (from + length saved) now)) ≡ c.args.self.now =
    λ now b. rw (← size) (ap (bytes_if there) b ∙ c.self.view_is) in
    record {
      same = record {
        fits = rw held (fits_same old saved c.args.count from within kept);
        is = rw held (back old (same_back old saved c.args.count from kept));
      };
      written = λ bytes n. record {
        fits = rw held (fits_back old bytes saved c.args.at c.args.count from low n kept);
        is = rw held (back (laid_over old c.args.at bytes) (laid_back old bytes saved c.args.at c.args.count from low n kept));
      };
    }
