-- The last of the tasks that the code keeps is the next one.
use Rattle.std.proofs.Common.{◌≡◌, List, [], ◌∷◌, ◌++◌, refl, sym, ap, ◌∙◌, append_assoc, append-nil, length, arith}
use Rattle.ac_run.specs.Run.{Task}
use Rattle.ac_stepper.specs.declared.pending.Pending.{Pending}
use Rattle.ac_stepper.specs.Tasks.{first_of, behind_of, tasks_in, tasks_of, rest_of}

pub tasks_of-last : (ts : List Pending) (t : Pending) → tasks_of (ts ++ t ∷ []) ≡ tasks_in t ++ tasks_of ts
tasks_of-last [] t = sym (append-nil (tasks_in t))
tasks_of-last (x ∷ ts) t = ap (λ (us : List Task). us ++ tasks_in x) (tasks_of-last ts t) ∙ append_assoc (tasks_in t) (tasks_of ts) (tasks_in x)

-- the tasks of a stack by its last task
pub last_is_next : (all : List Pending) (ts : List Pending) (t : Pending) → all ≡ ts ++ t ∷ [] → tasks_of all ≡ first_of t ∷ rest_of (tasks_of all)
last_is_next all ts t is =
    let whole : tasks_of all ≡ first_of t ∷ (behind_of t ++ tasks_of ts) = ap tasks_of is ∙ tasks_of-last ts t in
    whole ∙ ap (λ (us : List Task). first_of t ∷ us) (sym (ap rest_of whole))

pub rest_of-last : (all : List Pending) (ts : List Pending) (t : Pending) → all ≡ ts ++ t ∷ [] → rest_of (tasks_of all) ≡ behind_of t ++ tasks_of ts
rest_of-last all ts t is = ap rest_of (ap tasks_of is ∙ tasks_of-last ts t)

empty_is : {A : Type 0} (xs : List A) → length xs ≡ 0 → xs ≡ []
empty_is [] h = refl
empty_is (x ∷ xs) h = absurd (omega arith)

pub none_is_left : (all : List Pending) → length all ≡ 0 → tasks_of all ≡ []
none_is_left all h = ap tasks_of (empty_is all h)

pub none_is_dropped : (all left : List Pending) → all ≡ left ++ [] → length all ≡ 0 → tasks_of left ≡ rest_of (tasks_of all)
none_is_dropped all left same h =
    let kept : left ≡ [] = sym (append-nil left) ∙ sym same ∙ empty_is all h in
    ap tasks_of kept ∙ sym (ap rest_of (none_is_left all h))

pub one_is_dropped : (all left made : List Pending) (t : Pending) (block : List Task) → all ≡ left ++ t ∷ [] → block ≡ behind_of t → tasks_of made ≡ block ++ tasks_of left → tasks_of made ≡ rest_of (tasks_of all)
one_is_dropped all left made t block is same h = h ∙ ap (λ (ts : List Task). ts ++ tasks_of left) same ∙ sym (rest_of-last all left t is)

pub put_is : (all more : List Pending) (t : Pending) (block : List Task) → more ≡ all ++ t ∷ [] → tasks_in t ≡ block → tasks_of more ≡ block ++ tasks_of all
put_is all more t block is same = ap tasks_of is ∙ tasks_of-last all t ∙ ap (λ (ts : List Task). ts ++ tasks_of all) same
