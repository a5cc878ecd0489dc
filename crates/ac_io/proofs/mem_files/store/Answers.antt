use Rattle.std.proofs.lemmas.Result.{on_ok_weaker, on_err_weaker}
use Rattle.std.proofs.Common.{◌≡◌, find, position, Some, None, arith, ap, ◌∙◌}
use Rattle.ac_io.specs.StoredFile.{StoredFile, has_name, bytes_of}
use Rattle.ac_io.proofs.StoredFilesLemmas.{name-at, find-changed, find-changed_other, find-pushed, find-pushed_other, room-at, room-none, bytes-changed}
use Rattle.ac_io.proofs.mem_files.store.Goals as goal

pub returns-in_err-file-in-None-clause-room : goal.returns-in_err-file-in-None-clause-room
returns-in_err-file-in-None-clause-room c =
    let at : position (has_name c.args.name.now) c.args.files.now.items ≡ None = cc in
    λ fits. absurd (omega (arith, fits, room-none c.args.name.now c.args.files.now.items at))

pub returns-in-Some-clause-others : goal.returns-in-Some-clause-others
returns-in-Some-clause-others c other differ =
    let at : position (has_name c.args.name.now) c.args.files.now.items ≡ Some c.in-Some.place = cc in
    let same = c.set.ensures.name ∙ ap (λ (f : StoredFile). f.name) c.index_mut-file.ensures.value ∙ name-at c.args.name.now c.args.files.now.items c.in-Some.place _ at in
    find-changed_other c.args.name.now other c.args.files.now.items c.in-Some.place c.set.new.self at same differ

pub returns-in-Some-clause-room : goal.returns-in-Some-clause-room
returns-in-Some-clause-room c =
    let at : position (has_name c.args.name.now) c.args.files.now.items ≡ Some c.in-Some.place = cc in
    let room = room-at c.args.name.now c.args.files.now.items c.in-Some.place c.index_mut-file.result.now at c.index_mut-file.ensures.value in
    λ fits. c.set.ensures.room (omega (arith, fits, room))

pub returns-in_err-set-in-None-clause-room : goal.returns-in_err-set-in-None-clause-room
returns-in_err-set-in-None-clause-room c =
    let at : position (has_name c.args.name.now) c.args.files.now.items ≡ None = cc in
    λ fits. absurd (omega (arith, fits, room-none c.args.name.now c.args.files.now.items at))

pub returns-in_err-push-in-None-clause-room : goal.returns-in_err-push-in-None-clause-room
returns-in_err-push-in-None-clause-room c =
    let at : position (has_name c.args.name.now) c.args.files.now.items ≡ None = cc in
    λ fits. absurd (omega (arith, fits, room-none c.args.name.now c.args.files.now.items at))

pub returns-in-Some-clause-ok : goal.returns-in-Some-clause-ok
returns-in-Some-clause-ok c =
    let at : position (has_name c.args.name.now) c.args.files.now.items ≡ Some c.in-Some.place = cc in
    let same = c.set.ensures.name ∙ ap (λ (f : StoredFile). f.name) c.index_mut-file.ensures.value ∙ name-at c.args.name.now c.args.files.now.items c.in-Some.place _ at in
    on_ok_weaker c.set.result (λ e. ap bytes_of (find-changed c.args.name.now c.args.files.now.items c.in-Some.place c.set.new.self at same) ∙ e) c.set.ensures.ok

pub returns-in-Some-clause-err : goal.returns-in-Some-clause-err
returns-in-Some-clause-err c =
    let at : position (has_name c.args.name.now) c.args.files.now.items ≡ Some c.in-Some.place = cc in
    let same = c.set.ensures.name ∙ ap (λ (f : StoredFile). f.name) c.index_mut-file.ensures.value ∙ name-at c.args.name.now c.args.files.now.items c.in-Some.place _ at in
    let found = c.index_mut-file.ensures.value in
    on_err_weaker c.set.result (λ e. bytes-changed c.args.name.now c.args.files.now.items c.in-Some.place c.set.new.self c.index_mut-file.result.now at same found e) c.set.ensures.err

pub returns-in_ok-push-in-None-clause-ok : goal.returns-in_ok-push-in-None-clause-ok
returns-in_ok-push-in-None-clause-ok c =
    let at : position (has_name c.args.name.now) c.args.files.now.items ≡ None = cc in
    let same = c.in_ok-set-in-None.ensures.name ∙ c.in_ok-file-in-None.ensures.name in
    ap (λ files. bytes_of (find (has_name c.args.name.now) files)) c.in_ok-push-in-None.ensures.items ∙ ap bytes_of (find-pushed c.args.name.now c.args.files.now.items c.set-in-None.new.self at same) ∙ c.in_ok-set-in-None.ensures.ok

pub returns-in_ok-push-in-None-clause-others : goal.returns-in_ok-push-in-None-clause-others
returns-in_ok-push-in-None-clause-others c other differ =
    let same = c.in_ok-set-in-None.ensures.name ∙ c.in_ok-file-in-None.ensures.name in
    ap (find (has_name other)) c.in_ok-push-in-None.ensures.items ∙ find-pushed_other c.args.name.now other c.args.files.now.items c.set-in-None.new.self same differ
