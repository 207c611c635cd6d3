-- Who is chosen, over any sources that request; who is served.
use Rattle.std.proofs.Common.{◌≡◌, ◌⊎◌, inl, inr, Bool, true, false, ◌&&◌, Some, None, List, [], ◌∷◌, refl, subst, if◌then◌else◌, Option}
use Rattle.std.specs.List.{find, list_any}
use Rattle.std.specs.Option.{option_or}
use Rattle.std.proofs.lemmas.Bool.{and_parts, and_from, or_parts}
use Rattle.pdp_io_page.specs.Handbook.Reset.{io_page_reset}
use Rattle.pdp_io_page.specs.RequestLaws.{NoneIsChosenWhereNoneIsAbove, OthersGoOnRequesting, RequestsAreTold, ResetDropsRequests, ServedSourcesAreSilent, TheFirstIsChosen, goes_before}
use Rattle.pdp_io_page.specs.Handbook.Source.{alone_above, chosen_source, first_above, has_request, level_of, order, requests, io_page_served}
use Rattle.pdp_io_page.specs.Handbook.Status.{is_above}
use Rattle.pdp_io_page.specs.declared.io_page.IoPage.{IoPage}
use Rattle.pdp_io_page.specs.declared.priority.Priority.{Priority}
use Rattle.pdp_io_page.specs.declared.source.Source.{Source}
use Rattle.pdp_io_page.specs.declared.source.Source.TheVariants.{Keyboard, Printer, Reader, Punch, Clock, Disk}

-- a test fails at each source of a list
abbrev AllFail : (Source → Bool) → List Source → Type 0
AllFail test [] = Unit {0}
AllFail test (s ∷ ss) = (test s ≡ false) × AllFail test ss

-- it fails at each before a source, and holds there
abbrev HoldsFirstAt : (Source → Bool) → Source → List Source → Type 0
HoldsFirstAt test s [] = ⊥
HoldsFirstAt test s (t ∷ ts) = ((test t ≡ true) × (t ≡ s)) ⊎ ((test t ≡ false) × HoldsFirstAt test s ts)

found : (test : Source → Bool) (s : Source) (ss : List Source) → find test ss ≡ Some s → HoldsFirstAt test s ss
found test s [] is = cc
found test s (t ∷ ts) is = by (found test s ts) (test t) refl where
  by : (find test ts ≡ Some s → HoldsFirstAt test s ts) → (holds : Bool) → test t ≡ holds → HoldsFirstAt test s (t ∷ ts)
  by later true holds = inl (holds, let e : Some t ≡ Some s = rw holds at is in cc)
  by later false fails = inr (fails, later (rw fails at is))

not_found : (test : Source → Bool) (ss : List Source) → find test ss ≡ None → AllFail test ss
not_found test [] is = tt
not_found test (t ∷ ts) is = by (not_found test ts) (test t) refl where
  by : (find test ts ≡ None → AllFail test ts) → (holds : Bool) → test t ≡ holds → AllFail test (t ∷ ts)
  by later true holds = let e : Some t ≡ None = rw holds at is in cc
  by later false fails = (fails, later (rw fails at is))

none_at_all : (test : Source → Bool) (ss : List Source) → list_any test ss ≡ false → AllFail test ss
none_at_all test [] is = tt
none_at_all test (t ∷ ts) is =
    let parts = or_parts (test t) (list_any test ts) is in
    (parts.0, none_at_all test ts parts.1)

fails_at : (test : Source → Bool) (s : Source) → AllFail test order → test s ≡ false
fails_at test Clock all = all.0
fails_at test Disk all = all.1.0
fails_at test Keyboard all = all.1.1.0
fails_at test Printer all = all.1.1.1.0
fails_at test Reader all = all.1.1.1.1.0
fails_at test Punch all = all.1.1.1.1.1.0

-- a test holds at a source, and at none that goes before it
abbrev IsFirst : (Source → Bool) → Source → Type 0
IsFirst test s = (test s ≡ true) × ((t : Source) → test t ≡ true → goes_before t s ≡ false)

before_clock : (t : Source) → goes_before t Clock ≡ false
before_clock Clock = refl
before_clock _ = refl

before_disk : (test : Source → Bool) (t : Source) → test Clock ≡ false → test t ≡ true → goes_before t Disk ≡ false
before_disk test Clock clock holds = cc
before_disk test _ clock holds = refl

before_keyboard : (test : Source → Bool) (t : Source) → test Clock ≡ false → test Disk ≡ false → test t ≡ true
    → goes_before t Keyboard ≡ false
before_keyboard test Clock clock disk holds = cc
before_keyboard test Disk clock disk holds = cc
before_keyboard test _ clock disk holds = refl

before_printer : (test : Source → Bool) (t : Source) → test Clock ≡ false → test Disk ≡ false → test Keyboard ≡ false → test t ≡ true
    → goes_before t Printer ≡ false
before_printer test Clock clock disk keyboard holds = cc
before_printer test Disk clock disk keyboard holds = cc
before_printer test Keyboard clock disk keyboard holds = cc
before_printer test _ clock disk keyboard holds = refl

before_reader : (test : Source → Bool) (t : Source) → test Clock ≡ false → test Disk ≡ false → test Keyboard ≡ false
    → test Printer ≡ false → test t ≡ true → goes_before t Reader ≡ false
before_reader test Reader clock disk keyboard printer holds = refl
before_reader test Punch clock disk keyboard printer holds = refl
before_reader test _ clock disk keyboard printer holds = cc

before_punch : (test : Source → Bool) (t : Source) → test Clock ≡ false → test Disk ≡ false → test Keyboard ≡ false
    → test Printer ≡ false → test Reader ≡ false → test t ≡ true → goes_before t Punch ≡ false
before_punch test Punch clock disk keyboard printer reader holds = refl
before_punch test _ clock disk keyboard printer reader holds = cc

first_is : (test : Source → Bool) (s : Source) → HoldsFirstAt test s order → IsFirst test s
first_is test s (inl (holds, is)) = subst (IsFirst test) is (holds, λ t at. before_clock t)
first_is test s (inr (c, inl (holds, is))) = subst (IsFirst test) is (holds, λ t at. before_disk test t c at)
first_is test s (inr (c, inr (d, inl (holds, is)))) = subst (IsFirst test) is (holds, λ t at. before_keyboard test t c d at)
first_is test s (inr (c, inr (d, inr (k, inl (holds, is))))) =
    subst (IsFirst test) is (holds, λ t at. before_printer test t c d k at)
first_is test s (inr (c, inr (d, inr (k, inr (p, inl (holds, is)))))) =
    subst (IsFirst test) is (holds, λ t at. before_reader test t c d k p at)
first_is test s (inr (c, inr (d, inr (k, inr (p, inr (r, inl (holds, is))))))) =
    subst (IsFirst test) is (holds, λ t at. before_punch test t c d k p r at)
first_is test s (inr (c, inr (d, inr (k, inr (p, inr (r, inr (u, none))))))) = absurd none

-- a test fails at each source that goes before the first
fails_before : (test : Source → Bool) (t s : Source) → IsFirst test s → goes_before t s ≡ true → test t ≡ false
fails_before test t s first before = by (test t) refl where
  by : (holds : Bool) → test t ≡ holds → test t ≡ false
  by true holds = let no = first.1 t holds in cc
  by false fails = fails

is_found : (test : Source → Bool) (s : Source) → IsFirst test s → find test order ≡ Some s
is_found test Clock first = rw first.0 refl
is_found test Disk first = rw (fails_before test Clock Disk first refl, first.0) refl
is_found test Keyboard first =
    rw (fails_before test Clock Keyboard first refl, fails_before test Disk Keyboard first refl, first.0) refl
is_found test Printer first =
    rw (
      fails_before test Clock Printer first refl,
      fails_before test Disk Printer first refl,
      fails_before test Keyboard Printer first refl,
      first.0,
    ) refl
is_found test Reader first =
    rw (
      fails_before test Clock Reader first refl,
      fails_before test Disk Reader first refl,
      fails_before test Keyboard Reader first refl,
      fails_before test Printer Reader first refl,
      first.0,
    ) refl
is_found test Punch first =
    rw (
      fails_before test Clock Punch first refl,
      fails_before test Disk Punch first refl,
      fails_before test Keyboard Punch first refl,
      fails_before test Printer Punch first refl,
      fails_before test Reader Punch first refl,
      first.0,
    ) refl

is_not_found : (test : Source → Bool) → ((s : Source) → test s ≡ false) → find test order ≡ None
is_not_found test fails = rw (fails Clock, fails Disk, fails Keyboard, fails Printer, fails Reader, fails Punch) refl

-- the test of the choice
abbrev above : (Source → Bool) → Priority → Source → Bool
above is_requesting priority s = is_requesting s && is_above (level_of s) priority

pub the_first_is_chosen : TheFirstIsChosen
the_first_is_chosen is_requesting priority s = (
  λ is. let first = first_is test s (found test s order is) in
      (and_parts (is_requesting s) (is_above (level_of s) priority) first.0, λ t (asks, high). first.1 t (and_from _ _ asks high)),
  λ (here, first). is_found test s (and_from _ _ here.0 here.1, λ t holds. first t (and_parts (is_requesting t) (is_above (level_of t) priority) holds)),
) where
  test : Source → Bool
  test = above is_requesting priority

pub none_is_chosen : NoneIsChosenWhereNoneIsAbove
none_is_chosen is_requesting priority = (
  λ is s (asks, high). let no = fails_at test s (not_found test order is) in let yes = and_from _ _ asks high in cc,
  λ none. is_not_found test (λ s. fails (is_requesting s) (is_above (level_of s) priority) (none s)),
) where
  test : Source → Bool
  test = above is_requesting priority

  fails : (asks high : Bool) → ¬ ((asks ≡ true) × (high ≡ true)) → (asks && high) ≡ false
  fails true true never = absurd (never (refl, refl))
  fails true false never = refl
  fails false high never = refl

pub requests_are_told : RequestsAreTold
requests_are_told b = (
  λ is s. fails_at (requests b) s (none_at_all (requests b) order is),
  λ none. rw (none Clock, none Disk, none Keyboard, none Printer, none Reader, none Punch) refl,
)

-- the choice, source by source in their order
pub first_of_all : (is_requesting : Source → Bool) (priority : Priority)
    → option_or (option_or (option_or (option_or (option_or (alone_above is_requesting priority Clock) (alone_above is_requesting priority Disk))
    (alone_above is_requesting priority Keyboard)) (alone_above is_requesting priority Printer))
    (alone_above is_requesting priority Reader)) (alone_above is_requesting priority Punch)
    ≡ first_above is_requesting priority
first_of_all is_requesting priority =
    first (test Clock) (test Disk) (test Keyboard) (test Printer) (test Reader) (test Punch) where
      test : Source → Bool
      test s = is_requesting s && is_above (level_of s) priority

      only : Bool → Source → Option Source
      only holds s = if holds then Some s else None

      first : (clock disk keyboard printer reader punch : Bool)
          → option_or (option_or (option_or (option_or (option_or (only clock Clock) (only disk Disk)) (only keyboard Keyboard)) (only printer Printer)) (only reader Reader)) (only punch Punch)
          ≡ (if clock then Some Clock else if disk then Some Disk else if keyboard then Some Keyboard else if printer then Some Printer else if reader then Some Reader else if punch then Some Punch else None)
      first true disk keyboard printer reader punch = refl
      first false true keyboard printer reader punch = refl
      first false false true printer reader punch = refl
      first false false false true reader punch = refl
      first false false false false true punch = refl
      first false false false false false true = refl
      first false false false false false false = refl

-- if no source requests none is chosen
pub without_requests_none_is_chosen : (priority : Priority) (b : IoPage) → has_request b ≡ false → chosen_source priority b ≡ None
unfolding chosen_source
without_requests_none_is_chosen priority b quiet =
    (none_is_chosen (requests b) priority).1 (λ s (asks, high). let no = (requests_are_told b).0 quiet s in cc)

pub served_sources_are_silent : ServedSourcesAreSilent
unfolding requests io_page_served
served_sources_are_silent Clock b = refl
served_sources_are_silent Disk b = refl
served_sources_are_silent Keyboard b = refl
served_sources_are_silent Printer b = refl
served_sources_are_silent Reader b = refl
served_sources_are_silent Punch b = refl

pub others_go_on : OthersGoOnRequesting
unfolding requests io_page_served
others_go_on Clock Clock b other = absurd (other refl)
others_go_on Clock _ b other = refl
others_go_on Keyboard Keyboard b other = absurd (other refl)
others_go_on Keyboard _ b other = refl
others_go_on Printer Printer b other = absurd (other refl)
others_go_on Printer _ b other = refl
others_go_on Reader Reader b other = absurd (other refl)
others_go_on Reader _ b other = refl
others_go_on Punch Punch b other = absurd (other refl)
others_go_on Punch _ b other = refl
others_go_on Disk Disk b other = absurd (other refl)
others_go_on Disk _ b other = refl

pub reset_drops_requests : ResetDropsRequests
unfolding io_page_reset requests
reset_drops_requests b = refl
