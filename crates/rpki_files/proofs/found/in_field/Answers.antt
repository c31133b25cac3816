use Rattle.rpki_files.proofs.found.in_field.Goals as goal

pub returns-in-Version : goal.returns-in-Version
returns-in-Version c = rw c.in-Version.is c.version.ensures

pub returns-in-ListVersion : goal.returns-in-ListVersion
returns-in-ListVersion c = rw c.in-ListVersion.is c.list_version.ensures

pub returns-in-Serial : goal.returns-in-Serial
returns-in-Serial c = rw c.in-Serial.is c.serial.ensures

pub returns-in-Validity : goal.returns-in-Validity
returns-in-Validity c = rw c.in-Validity.is c.validity.ensures

pub returns-in-ThisUpdate : goal.returns-in-ThisUpdate
returns-in-ThisUpdate c = rw c.in-ThisUpdate.is c.time.ensures

pub returns-in-NextUpdate : goal.returns-in-NextUpdate
returns-in-NextUpdate c = rw c.in-NextUpdate.is c.time-in-NextUpdate.ensures
