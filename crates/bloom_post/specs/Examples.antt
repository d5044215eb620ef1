-- Filters and identifiers computed.
use Rattle.std.specs.Prelude.{◌≡◌, [], ◌∷◌, map}
use Rattle.bloom_post.specs.Places.{pages_of, size_of, bits_of}

pub record SizesOfFilters : Type 0 where
  pub pages : map pages_of (8 ∷ 9 ∷ 11 ∷ 32 ∷ 64 ∷ []) ≡ 2 ∷ 2 ∷ 3 ∷ 10 ∷ 20 ∷ []
  pub bits : map size_of (2 ∷ 10 ∷ 20 ∷ []) ≡ 32768 ∷ 163840 ∷ 327680 ∷ []

pub record BitsOfIdentifiers : Type 0 where
  pub zero_has_one_bit : bits_of 32768 0 ≡ 0 ∷ 0 ∷ 0 ∷ []
  pub one : bits_of 32768 1 ≡ 1 ∷ 25463 ∷ 24252 ∷ []
  pub of_two_pages : bits_of 32768 40000 ≡ 7232 ∷ 16484 ∷ 9522 ∷ []
  pub of_ten_pages : bits_of 163840 40000 ≡ 40000 ∷ 49252 ∷ 9522 ∷ []
  pub of_twenty_pages : bits_of 327680 1000000 ≡ 16960 ∷ 51664 ∷ 139748 ∷ []
  pub highest : bits_of 327680 4294967295 ≡ 65535 ∷ 72840 ∷ 172355 ∷ []
