-- The tests of a content in the paper's order, what is known of one that they let through, and its words, tried in order. Assumes nothing.
use Rattle.std.proofs.Common.{◌≡◌, ℕ, ◌+◌, ◌-◌, ◌*◌, ◌/◌, ◌^◌, ◌<◌, ◌≤◌, Bool, true, false, not, ltb, List, length, get_or, Option, None, Some, Err, refl, sym, ap, ◌∙◌, subst, arith, pow_pos, eq-eqb, ne_eqb, eqb-true, leb-true, ltb-true, lt-ltb}
use borrow.Author.Tests.{ltb-false}
use mathlib.Core.Bool.{false≢true}
use native.Mathlib.Decide.{dec_lt}
use Rattle.std.proofs.lemmas.List.Quantifiers.{position-Some}
use Rattle.std.proofs.lemmas.List.Sums.{fails_before_first}
use Rattle.std.specs.List.{position, position_or_len}
use Rattle.bounds.specs.declared.refusal.ListRefusal.{ListRefusal}
use Rattle.bounds.specs.declared.refusal.Refusal.{Refusal}
use Rattle.bounds.specs.Refusals.{passed, unless, stray_test, ◌then◌}
use Rattle.bounds.proofs.Powers.{not_more}
use Rattle.bounds.proofs.Verdicts.{open_when, then_through, stray_through, stray_fits, stray_bit}
use Rattle.sheet.specs.Puts.{AreOfBytes, IsFirstStray}
use Rattle.sheet.specs.Reads.{is_block_width, size_test}
use Rattle.sheet.specs.Writes.{is_retired, has_room_for, content_test, FitUpTo, IsTried}
use Rattle.sheet.proofs.Rooms.{has_room, has_no_room}
use Rattle.sheet.proofs.Sizes.{whole_bytes}
use Rattle.sheet.proofs.Tests.{OneOfFour, each_width, is_width}

-- ---- the tests
-- a call has told whether the width is one of the four
pub is_wide : (n : ℕ) (b : Bool) → b ≡ is_block_width n → b ≡ true → is_block_width n ≡ true
is_wide n b e h = sym e ∙ h

pub isn't_wide : (n : ℕ) (b : Bool) → b ≡ is_block_width n → b ≡ false → is_block_width n ≡ false
isn't_wide n b e h = sym e ∙ h

module _ (n count : ℕ) (buffer : List ℕ) where
  pub other_width : is_block_width n ≡ false → content_test n count buffer ≡ Err Refusal.Width
  unfolding content_test
  other_width h = rw h

  module _ (wide : is_block_width n ≡ true) where
    pub old_width : n ≡ 8 → content_test n count buffer ≡ Err Refusal.Retired
    unfolding content_test is_retired
    old_width h = rw (wide, eq-eqb n 8 h)

    module _ (made : n ≡ 8 → ⊥) where
      pub too_many : 496 / (n / 8) < count → content_test n count buffer ≡ Err Refusal.Count
      unfolding content_test is_retired
      too_many h = rw (wide, ne_eqb n 8 made, has_no_room n count (is_width n wide) h)

      module _ (room : count ≤ 496 / (n / 8)) where
        pub other_buffer : (length buffer ≡ 512 → ⊥) → content_test n count buffer ≡ Err Refusal.Size
        unfolding content_test is_retired size_test
        other_buffer h = rw (wide, ne_eqb n 8 made, has_room n count (is_width n wide) room, ne_eqb (length buffer) 512 h)

        pub content_passes : length buffer ≡ 512 → content_test n count buffer ≡ passed
        unfolding content_test is_retired size_test
        content_passes h = rw (wide, ne_eqb n 8 made, has_room n count (is_width n wide) room, eq-eqb (length buffer) 512 h)

-- ---- a content that is let through
pub record Fitting (n count : ℕ) (buffer : List ℕ) : Type 0 where
  pub wide : OneOfFour n
  pub made : n ≡ 8 → ⊥
  pub inside : 8 + n / 8 * count ≤ 504
  pub size : length buffer ≡ 512

pub fitting : (n count : ℕ) (buffer : List ℕ) → content_test n count buffer ≡ passed → Fitting n count buffer
unfolding content_test is_retired has_room_for size_test
fitting n count buffer h =
    let to_count = then_through (unless Refusal.Width (is_block_width n) then unless Refusal.Retired (not (is_retired n)) then unless Refusal.Count (has_room_for n count)) (size_test buffer) h in
    let to_retired = then_through (unless Refusal.Width (is_block_width n) then unless Refusal.Retired (not (is_retired n))) (unless Refusal.Count (has_room_for n count)) to_count.0 in
    let to_width = then_through (unless Refusal.Width (is_block_width n)) (unless Refusal.Retired (not (is_retired n))) to_retired.0 in
    record {
      wide = is_width n (open_when _ Refusal.Width to_width.0);
      made = λ e. false≢true (sym (ap not (eq-eqb n 8 e)) ∙ open_when _ Refusal.Retired to_width.1);
      inside = leb-true _ _ (open_when _ Refusal.Count to_retired.1);
      size = eqb-true _ _ (open_when _ Refusal.Size to_count.1);
    }

-- a count of two bytes
pub small_count : (n count : ℕ) (buffer : List ℕ) → Fitting n count buffer → count ≤ 496
small_count n count buffer f = omega (arith, f.inside, at_least_one)
  where
    at_least_one : count ≤ n / 8 * count
    at_least_one = each_width (λ w. count ≤ w / 8 * count) (omega arith) (omega arith) (omega arith) (omega arith) n f.wide

-- ---- its words, each compared with all ones of the width
module _ (n : ℕ) (words : List ℕ) (most : ℕ) (ones : most ≡ 2 ^ n - 1) where
  test : ℕ → Bool
  test w = ltb most w

  fits : (w : ℕ) → test w ≡ false → stray_test n w ≡ passed
  unfolding test
  fits w h = stray_fits n w (omega (arith, ltb-false most w h, ones, pow_pos n))

  clash : {i : ℕ} → ◌≡◌ {A = Option ℕ} None (Some i) → ⊥
  clash q = let some : Option ℕ → Bool = elim [ None ↦ false | Some _ ↦ true ] in false≢true (ap some q)

  pub first_stray_is : (p : Option ℕ) → p ≡ position (λ w. ltb most w) words → IsFirstStray n words p
  unfolding IsFirstStray FitUpTo test
  first_stray_is (Some i) e =
      let t = position-Some (λ w. ltb most w) words i 0 (sym e) in
      (t.0, (λ k h. fits (get_or words k 0) (t.2 k h)), stray_bit n (get_or words i 0) (omega (arith, ltb-true most (get_or words i 0) t.1, ones, pow_pos n)))
  first_stray_is None e = by (dec_lt (position_or_len (λ w. ltb most w) words) (length words))
    where
      by : Dec (position_or_len (λ w. ltb most w) words < length words) → (k : ℕ) → k < length words → stray_test n (get_or words k 0) ≡ passed
      by (yes l) k h = absurd (clash {i = position_or_len (λ w. ltb most w) words} (e ∙ rw (lt-ltb (position_or_len (λ w. ltb most w) words) (length words) l) refl))
      by (no f) k h = fits (get_or words k 0) (fails_before_first (λ w. ltb most w) words k 0 (omega (arith, h, not_more f)))

module _ (n : ℕ) (words : List ℕ) where
  -- words without a stray bit have the bytes of the width
  pub fit_bytes : OneOfFour n → FitUpTo n words (length words) → AreOfBytes (n / 8) words
  unfolding FitUpTo AreOfBytes
  fit_bytes four fit j h = subst (λ (k : ℕ). get_or words j 0 < 2 ^ k) (sym (whole_bytes n four)) (stray_through n (get_or words j 0) (fit j h))

-- ---- what the first stray word decides
pub stray_refused : (n : ℕ) (words : List ℕ) (position : ℕ) → IsFirstStray n words (Some position) → IsTried n words (Err (ListRefusal.At position Refusal.Stray))
unfolding IsFirstStray IsTried
stray_refused n words position f = f

pub none_stray : (n : ℕ) (words : List ℕ) → IsFirstStray n words None → FitUpTo n words (length words)
unfolding IsFirstStray
none_stray n words f = f
