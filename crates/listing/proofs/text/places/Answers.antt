-- `places` meets its contract. Assumes nothing.
use Rattle.std.proofs.Common.{ℕ, ◌≡◌, ◌+◌, ◌-◌, ◌*◌, ◌^◌, ◌<◌, ◌≤◌, sym, ap, ◌∙◌, subst, add-one, lit<, arith}
use native.Mathlib.Nat.{pow-suc, pow-le-pow_right}
use Rattle.listing.proofs.text.places.Goals as goal

pub returns : goal.returns
returns c =
    let k : ℕ = c.ilog10.result in
    let up : 10 ^ (k + 1) ≡ 10 ^ k * 10 = ap (λ (x : ℕ). 10 ^ x) (add-one k) ∙ pow-suc 10 k in
    let same : k + 1 - 1 ≡ k = omega arith in (
      (
        omega arith,
        omega (arith, up),
        λ (h : 1 < k + 1).
            let some : 1 ≤ k = omega arith in
            subst (λ (x : ℕ). 10 ^ x ≤ c.args.n) (sym same) (omega (arith, pow-le-pow_right {n = 10} (lit< tt) {i = 1} {j = k} some)),
      ),
      omega arith,
    )
