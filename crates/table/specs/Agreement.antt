-- To believe: when two situations agree in all that counts.

use Rattle.std.specs.Prelude.{◌≡◌, ℕ, ◌<◌, true}
use Rattle.table.specs.Table.{Situation}

-- The same lots are held, with the same issuers and values; the same exposures are open, with the same amounts; and of each held
-- lot and open exposure both say the same of admission and limit. What they say of empty places is left open.
pub record Agrees (s r : Situation) : Type 0 where
  pub held : (l : ℕ) → l < 64 → s.held l ≡ r.held l
  pub issuer : (l : ℕ) → l < 64 → s.held l ≡ true → s.issuer l ≡ r.issuer l
  pub worth : (l : ℕ) → l < 64 → s.held l ≡ true → s.worth l ≡ r.worth l
  pub opened : (e : ℕ) → e < 16 → s.opened e ≡ r.opened e
  pub amount : (e : ℕ) → e < 16 → s.opened e ≡ true → s.amount e ≡ r.amount e
  pub admits : (l e : ℕ) → l < 64 → e < 16 → s.held l ≡ true → s.opened e ≡ true → s.admits l e ≡ r.admits l e
  pub limit : (l e : ℕ) → l < 64 → e < 16 → s.held l ≡ true → s.opened e ≡ true → s.limit e (s.issuer l) ≡ r.limit e (s.issuer l)
