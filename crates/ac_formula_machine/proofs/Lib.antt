mod Denied
