-- Steps 1 to 4 of document 01's "A walk, call by call", as far as no token is read, and the page after a reply.
use Rattle.std.specs.Prelude.{ℕ, ◌%◌, [], ◌∷◌, Bool, true, false, eqb, leb}
use Rattle.words.specs.Pick.{pick, every}
use Rattle.states.specs.declared.State.{State}
use Rattle.states.specs.declared.State.TheVariants.{Unusable, Available, Unisolated, Configured}
use Rattle.states.specs.declared.Page.{Page}
use Rattle.states.specs.declared.Page.TheVariants.{None, Asked, Taken}

-- step 1, as far as the work area goes: one page or two
abbrev pub is_area : ℕ → Bool
is_area lent = pick (eqb lent 4096) true (eqb lent 8192)

-- step 2
abbrev pub is_unisolated : State → Bool
is_unisolated Unusable = false
is_unisolated Available = false
is_unisolated Unisolated = true
is_unisolated Configured = false

-- step 3: two pages only where the second was asked for or taken, one page only where it was not taken
abbrev pub pages_meet : Page → ℕ → Bool
pages_meet None lent = eqb lent 4096
pages_meet Asked lent = true
pages_meet Taken lent = eqb lent 8192

-- step 4's blocks and place: neither block too long, structure block and place multiples of 4
unfoldable pub readable : ℕ → ℕ → ℕ → Bool
readable s_len st_len place = every (leb s_len 32768 ∷ leb st_len 4096 ∷ eqb (s_len % 4) 0 ∷ eqb (place % 4) 0 ∷ [])

-- any reply clears the asking; a run of two pages is then taken
abbrev pub page_after : ℕ → Page
page_after lent = pick (eqb lent 8192) Taken None
