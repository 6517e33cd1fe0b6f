-- The order in which a batch runs: its SYNC calls, then its ASYNC calls, each oldest first.
use Rattle.std.specs.Prelude.{◌≡◌, List, [], ◌∷◌, ◌++◌}
use Rattle.smp_call_steps.specs.Names.{Call, Class, Sync, Async}

-- the call where its class is SYNC
abbrev pub if_sync : Class → Call → List Call
if_sync Sync call = call ∷ []
if_sync Async call = []

-- the call where its class is ASYNC
abbrev pub if_async : Class → Call → List Call
if_async Sync call = []
if_async Async call = call ∷ []

-- the SYNC calls of a list, in its order
abbrev pub sync_calls : List Call → List Call
sync_calls [] = []
sync_calls (call ∷ rest) = if_sync call.class call ++ sync_calls rest

-- the ASYNC calls of a list, in its order
abbrev pub async_calls : List Call → List Call
async_calls [] = []
async_calls (call ∷ rest) = if_async call.class call ++ async_calls rest

-- the drain order of a batch
abbrev pub order : List Call → List Call
order calls = sync_calls calls ++ async_calls calls

-- the call where its class is this one
abbrev pub if_class : Class → Class → Call → List Call
if_class Sync Sync call = call ∷ []
if_class Sync Async call = []
if_class Async Sync call = []
if_class Async Async call = call ∷ []

-- the calls of this class, in the order of the list
abbrev pub of_class : Class → List Call → List Call
of_class class [] = []
of_class class (call ∷ rest) = if_class class call.class call ++ of_class class rest

-- the list begins with these calls
abbrev pub IsPrefix : List Call → List Call → Type 0
IsPrefix front calls = (rest : List Call) × (calls ≡ front ++ rest)
