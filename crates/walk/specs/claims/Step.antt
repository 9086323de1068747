-- Two faces to each crossing, and mates that are mutual.
use Rattle.std.specs.Prelude.{ℕ, ◌*◌, ◌/◌, ◌<◌, ◌≡◌, ◌⊎◌, ◌≢◌}
use Rattle.walk.specs.Step.{face}

module _ (N : ℕ) (fa fb : ℕ → ℕ) (mate : ℕ → ℕ → ℕ) where
  -- what is asked of faces and mates: two different faces; the mate lies on the face, is another crossing, and has the first as its mate
  pub record Ports : Type 0 where
    pub apart : (x : ℕ) → x < N → fa x ≢ fb x
    pub both : (d : ℕ) → d < 2 * N → mate (face N fa fb mate d) (d / 2) < N → mate (face N fa fb mate d) (mate (face N fa fb mate d) (d / 2)) ≡ d / 2
    pub other : (d : ℕ) → d < 2 * N → mate (face N fa fb mate d) (d / 2) ≢ d / 2
    pub lies : (d : ℕ) → d < 2 * N → mate (face N fa fb mate d) (d / 2) < N
        → (fa (mate (face N fa fb mate d) (d / 2)) ≡ face N fa fb mate d) ⊎ (fb (mate (face N fa fb mate d) (d / 2)) ≡ face N fa fb mate d)
