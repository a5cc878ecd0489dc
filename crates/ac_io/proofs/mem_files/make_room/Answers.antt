use Rattle.std.proofs.Common.{◌≡◌, ◌≤◌, find, position, Some, None, arith, ap, ◌∙◌}
use Rattle.std.proofs.lemmas.Result.{on_ok_weaker}
use Rattle.ac_io.specs.StoredFile.{StoredFile, has_name, bytes_of, room_of}
use Rattle.ac_io.proofs.StoredFilesLemmas.{name-at, find-changed_other, find-pushed_other, room-changed, room-pushed, bytes-changed, bytes-pushed}
use Rattle.ac_io.proofs.mem_files.make_room.Goals as goal

pub returns-in-Some-clause-ok : goal.returns-in-Some-clause-ok
returns-in-Some-clause-ok c =
    let at : position (has_name c.args.name.now) c.args.files.now.items ≡ Some c.in-Some.place = cc in
    let same = c.reserve.ensures.name ∙ ap (λ (f : StoredFile). f.name) c.index_mut-file.ensures.value ∙ name-at c.args.name.now c.args.files.now.items c.in-Some.place _ at in
    let room = room-changed c.args.name.now c.args.files.now.items c.in-Some.place c.reserve.new.self at same in
    on_ok_weaker c.reserve.result (λ (fits : c.args.bytes ≤ c.reserve.new.self.room). omega (arith, fits, room)) c.reserve.ensures.ok

pub returns-in-Some-clause-others : goal.returns-in-Some-clause-others
returns-in-Some-clause-others c other differ =
    let at : position (has_name c.args.name.now) c.args.files.now.items ≡ Some c.in-Some.place = cc in
    let same = c.reserve.ensures.name ∙ ap (λ (f : StoredFile). f.name) c.index_mut-file.ensures.value ∙ name-at c.args.name.now c.args.files.now.items c.in-Some.place _ at in
    find-changed_other c.args.name.now other c.args.files.now.items c.in-Some.place c.reserve.new.self at same differ

pub returns-in-Some-clause-contents : goal.returns-in-Some-clause-contents
returns-in-Some-clause-contents c =
    let at : position (has_name c.args.name.now) c.args.files.now.items ≡ Some c.in-Some.place = cc in
    let same = c.reserve.ensures.name ∙ ap (λ (f : StoredFile). f.name) c.index_mut-file.ensures.value ∙ name-at c.args.name.now c.args.files.now.items c.in-Some.place _ at in
    bytes-changed c.args.name.now c.args.files.now.items c.in-Some.place c.reserve.new.self c.index_mut-file.result.now at same c.index_mut-file.ensures.value c.reserve.ensures.bytes

pub returns-in_ok-push-in-None-clause-ok : goal.returns-in_ok-push-in-None-clause-ok
returns-in_ok-push-in-None-clause-ok c =
    let at : position (has_name c.args.name.now) c.args.files.now.items ≡ None = cc in
    let same = c.in_ok-reserve-in-None.ensures.name ∙ c.in_ok-file-in-None.ensures.name in
    let room = ap (λ files. room_of (find (has_name c.args.name.now) files)) c.in_ok-push-in-None.ensures.items ∙ room-pushed c.args.name.now c.args.files.now.items c.reserve-in-None.new.self at same in
    let fits : c.args.bytes ≤ c.reserve-in-None.new.self.room = c.in_ok-reserve-in-None.ensures.ok in
    omega (arith, room, fits)

pub returns-in_ok-push-in-None-clause-others : goal.returns-in_ok-push-in-None-clause-others
returns-in_ok-push-in-None-clause-others c other differ =
    let same = c.in_ok-reserve-in-None.ensures.name ∙ c.in_ok-file-in-None.ensures.name in
    ap (find (has_name other)) c.in_ok-push-in-None.ensures.items ∙ find-pushed_other c.args.name.now other c.args.files.now.items c.reserve-in-None.new.self same differ

pub returns-in_ok-push-in-None-clause-contents : goal.returns-in_ok-push-in-None-clause-contents
returns-in_ok-push-in-None-clause-contents c other =
    let at : position (has_name c.args.name.now) c.args.files.now.items ≡ None = cc in
    let same = c.in_ok-reserve-in-None.ensures.name ∙ c.in_ok-file-in-None.ensures.name in
    let empty = c.in_ok-reserve-in-None.ensures.bytes ∙ c.in_ok-file-in-None.ensures.bytes in
    ap (λ files. bytes_of (find (has_name other) files)) c.in_ok-push-in-None.ensures.items ∙ bytes-pushed c.args.name.now c.args.files.now.items c.reserve-in-None.new.self at same empty other
