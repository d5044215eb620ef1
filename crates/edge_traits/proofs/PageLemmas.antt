-- A list of pages that are all alike, and one more.
use Rattle.std.proofs.Common.{◌≡◌, ℕ, ◌+◌, ◌<◌, ◌∙◌, List, [], ◌∷◌, ◌++◌, length, below_more, arith}
use Rattle.std.proofs.lemmas.List.{get_or_append_left, get_or_push}
use Rattle.edge_traits.specs.Pages.{page_at}

pub one_page_more :
    (pages : List (List ℕ)) (bytes : List ℕ) (count : ℕ) → length pages ≡ count
    → ((page : ℕ) → page < count → page_at pages page ≡ bytes)
    → (page : ℕ) → page < count + 1 → page_at (pages ++ bytes ∷ []) page ≡ bytes
one_page_more pages bytes count size alike =
    below_more (λ page. page_at (pages ++ bytes ∷ []) page ≡ bytes) count
    (λ page within. get_or_append_left pages (bytes ∷ []) [] page (omega arith) ∙ alike page within)
    (get_or_push pages bytes [] count size)
