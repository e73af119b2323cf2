mod Signalled
