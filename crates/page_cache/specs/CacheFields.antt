-- How a `Cache` keeps its pages.
use Rattle.std.specs.Prelude.{map}
use Rattle.page_cache.specs.Pages.{Pages, IsCache}
use Rattle.page_cache.specs.declared.cache.Cache.TheInside.{Inside}

abbrev pub pages_of : Inside → Pages
pages_of c = record { entries = map (λ e. (e.0, e.1.items)) c.pages.entries; capacity = c.pages.cap }

abbrev pub IsKept : Inside → Type 0
IsKept c = IsCache (pages_of c)
