-- Steps in rising order.
use Rattle.std.specs.Prelude.{ℕ, zero, suc}

-- the steps of the elements below n, in rising order
unfoldable pub rising : {A : Type 0} → (ℕ → A → A) → ℕ → A → A
rising f zero a = a
rising f (suc n) a = f n (rising f n a)
