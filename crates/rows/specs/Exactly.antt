-- That something is so, and nothing else.
use Rattle.std.specs.Prelude.{◌≡◌}

-- Exactly (λ n. n + 1 ≡ 3) 2
abbrev pub Exactly : {A : Type 0} → (A → Type 0) → A → Type 0
Exactly {A} Is a = Is a × ((other : A) → Is other → other ≡ a)
