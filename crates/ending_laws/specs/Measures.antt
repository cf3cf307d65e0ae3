-- How many actions of a run are left at most.
use Rattle.std.specs.Prelude.{◌≡◌, ◌≤◌, ◌<◌, ℕ, ◌+◌, ◌*◌, ◌-◌, List, slice_get, slice_set, sum_by, Some, Bool, true, false, if◌then◌else◌}

-- how often a request may still be sent: four times in all, and not again once its path carried it
abbrev pub sendings_left : ℕ → Bool → ℕ
sendings_left losses waits = if waits then 0 else 4 - losses

-- a session that may take so many answers more: a sending is an action itself and leaves at most two messages, of which each is served;
-- for each answer there are at most four sendings, and it is taken
abbrev pub session_left : ℕ → ℕ → Bool → ℕ
session_left answers losses waits = 13 * answers + 3 * sendings_left losses waits

-- a run: what its sessions may do, and what lies in the mails of its partitions
abbrev pub run_left : {S D : Type 0} → (S → ℕ) → (D → ℕ) → List S → List D → ℕ
run_left session mail sessions partitions = sum_by session sessions + sum_by mail partitions

-- the sending of a request that may still be sent leaves three less to the session: it is carried, it is lost once more, or with the loss an answer is taken
abbrev pub SendingsFall : Type 0
SendingsFall =
    (answers losses : ℕ) → losses < 4
    → (session_left answers losses true + 3 ≤ session_left answers losses false)
    × (session_left answers (losses + 1) false + 3 ≤ session_left answers losses false)
    × ((fewer : ℕ) → fewer < answers → session_left fewer 0 false + 3 ≤ session_left answers losses false)

-- an answer that is taken leaves less, however far its request had come
abbrev pub AnswersFall : Type 0
AnswersFall = (answers losses : ℕ) (waits : Bool) (fewer : ℕ) → fewer < answers → session_left fewer 0 false < session_left answers losses waits

-- a run has less left where one session has, and where one session and one partition together have: a session takes its answer or draws its commit;
-- it sends, or serves by hand; or a partition serves
abbrev pub RunsFall : Type 0 → Type 0 → Type 0
RunsFall S D =
    (session : S → ℕ) (mail : D → ℕ) (sessions : List S) (partitions : List D) (at : ℕ) (s after : S) → slice_get sessions at ≡ Some s
    → (session after < session s → run_left session mail (slice_set sessions at after) partitions < run_left session mail sessions partitions)
    × ((part : ℕ) (d now : D) → slice_get partitions part ≡ Some d → session after + mail now < session s + mail d
    → run_left session mail (slice_set sessions at after) (slice_set partitions part now) < run_left session mail sessions partitions)
