-- What each call leaves of a cache.
use Rattle.std.proofs.Common.{◌≡◌, ℕ, ◌≤◌, nat_eq, List, Option, option_map, sym, ap, ◌∙◌, arith}
use Rattle.std.specs.List.{IsDistinct}
use Rattle.std.specs.Map.{lookup}
use Rattle.std.proofs.lemmas.Map.Made.{lookup-map_values}
use Rattle.lru.specs.LruCache.{LruCache, lru_cache, promoted, put_entries}
use Rattle.page_cache.specs.Pages.{Pages, no_pages, page_at, after_put, after_use, IsCache}
use Rattle.page_cache.proofs.EntryLemmas.{shown, shown-promoted, shown-put_entries}
use Rattle.page_cache.proofs.PagesLemmas.{put_entries-is, promoted-is}

pub IsCache-empty : (capacity : ℕ) → 1 ≤ capacity → IsCache (no_pages capacity)
unfolding IsDistinct
IsCache-empty capacity some = record { different = tt; fits = omega arith; some = some }

module _ {V : Type 0} (seen : V → List ℕ) where
  abbrev pub pages_from : LruCache ℕ V → Pages
  pages_from c = record { entries = shown seen c.entries; capacity = c.cap }

  module _ (c : LruCache ℕ V) (cache : IsCache (pages_from c)) (number : ℕ) (new : LruCache ℕ V) where
    pub pages_from-put : (v : V) → new ≡ lru_cache (put_entries nat_eq c number v) c.cap → pages_from new ≡ after_put (pages_from c) number (seen v)
    pages_from-put v e = ap pages_from e ∙ ap (λ es. record { entries = es; capacity = c.cap }) (shown-put_entries seen c.entries c.cap number v ∙ put_entries-is (pages_from c) cache number (seen v))

    pub pages_from-promote : new ≡ lru_cache (promoted (nat_eq number) c.entries) c.cap → pages_from new ≡ after_use (pages_from c) number
    pages_from-promote e = ap pages_from e ∙ ap (λ es. record { entries = es; capacity = c.cap }) (shown-promoted seen (nat_eq number) c.entries) ∙ promoted-is (pages_from c) cache number

  -- a page is found where it is kept
  pub page_at-pages_from : (c : LruCache ℕ V) (number : ℕ) (o : Option V) → o ≡ lookup (nat_eq number) c.entries → page_at (pages_from c) number ≡ option_map seen o
  page_at-pages_from c number o is = lookup-map_values seen (nat_eq number) c.entries ∙ ap (option_map seen) (sym is)
