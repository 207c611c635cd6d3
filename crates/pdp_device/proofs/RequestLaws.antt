-- A request that was served stays away, over any list of changes.
use Rattle.std.proofs.Common.{◌≡◌, Bool, true, false, List, [], ◌∷◌, refl}
use Rattle.pdp_device.specs.Request.{request_after}
use Rattle.pdp_device.specs.ReadyEnable.{ready_enable_served, wants_interrupt}
use Rattle.pdp_device.specs.Laws.{ReadyEnableUse, SetReady, WriteEnable, SetBoth, HoldsThroughout, ready_enable_after_use, ready_enable_after_uses, ServedRequestsStayAway}
use Rattle.pdp_device.specs.declared.ready_enable.ReadyEnable.{ReadyEnable}

-- a condition that held before makes no request
level : (before after request : Bool) → before ≡ true → request ≡ false → request_after before after request ≡ false
level true true false held none = refl
level before false request held none = refl
level false true request held none = cc
level true true true held none = cc

one_change : (use_of : ReadyEnableUse) (c : ReadyEnable) → wants_interrupt c ≡ true → c.request ≡ false
    → (ready_enable_after_use use_of c).request ≡ false
one_change (SetReady ready) c held none = level (wants_interrupt c) _ c.request held none
one_change (WriteEnable word) c held none = level (wants_interrupt c) _ c.request held none
one_change (SetBoth ready enable) c held none = level (wants_interrupt c) _ c.request held none

stays_away : (uses : List ReadyEnableUse) (c : ReadyEnable) → c.request ≡ false → HoldsThroughout uses c
    → (ready_enable_after_uses uses c).request ≡ false
stays_away [] c none holds = none
stays_away (use_of ∷ uses) c none holds =
    stays_away uses (ready_enable_after_use use_of c) (one_change use_of c holds.0 none) holds.1

pub served_stay_away : ServedRequestsStayAway
served_stay_away c uses holds = stays_away uses (ready_enable_served c) refl holds
